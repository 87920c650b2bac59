-- The line has the word and the number.
use Rattle.std.proofs.Common.{◌≤◌, [], ◌∷◌, ◌++◌, sym, ap, ◌∙◌, arith}
use Rattle.std.specs.Prelude.{decimal}
use Rattle.lat_audit.proofs.LineWords.{line_words, line_from_words, behind_word}
use Rattle.lat_audit.proofs.line_forms.counted.Goals as goal

pub returns-in-None : goal.returns-in-None
returns-in-None c = λ n l e. c.in-None.ensures (decimal n) (line_words c.args.line.now (c.args.word.now ∷ decimal n ∷ []) e)

pub returns-in-None-read_number : goal.returns-in-None-read_number
returns-in-None-read_number c = λ n l e.
    let bound = c.from.ensures in
    let within : n ≤ c.from.result = omega (arith, bound) in
    c.in-None-read_number.ensures n within (behind_word c.args.word.now c.in-Some.digits.now (decimal n)
    (sym c.in-Some.ensures ∙ line_words c.args.line.now (c.args.word.now ∷ decimal n ∷ []) e))

pub returns-in-Some-read_number : goal.returns-in-Some-read_number
returns-in-Some-read_number c =
    let bound = c.from.ensures in
    let read = c.in-Some-read_number.ensures in
    let within : c.in-Some-read_number.number ≤ c.args.bound = omega (arith, bound, read.0) in (
      within,
      line_from_words c.args.line.now (c.args.word.now ∷ decimal c.in-Some-read_number.number ∷ [])
          (c.in-Some.ensures ∙ ap (λ d. c.args.word.now ++ 32 ∷ d) read.1),
    )
