-- One more line, and as many as the names take.
use Rattle.std.proofs.Common.{◌≡◌, ℕ, ◌*◌, List, ◌∷◌, ◌++◌, length, map, sym, refl, ap, ◌∙◌, arith}
use Rattle.std.specs.Prelude.{codes, flat_map}
use Rattle.std.specs.Fork.{slice_chunk}
use Rattle.std.specs.Int.{div_ceil}
use Rattle.std.specs.List.{range_with_len}
use Rattle.std.proofs.lemmas.List.{length-map}
use Rattle.lat_language.specs.declared.scripts.TheConstants.{SCHEDULE_NAMES}
use Rattle.lat_language.specs.CanonicalText.{line_of, name_at, schedule_lines}
use Rattle.lat_language.proofs.AppendedTexts.{names_part, schedule_more}
use Rattle.lat_language.proofs.printing.add_schedule.Goals as goal

pub loop-n-preserved : goal.loop-n-preserved
loop-n-preserved c =
    let part = names_part (name_at c.args.sessions.now) c.args.places.now SCHEDULE_NAMES c.loop-n.n (c.loop-n.n * SCHEDULE_NAMES) c.min-end.result refl c.min-end.ensures in
    schedule_more (λ n. codes "schedule" ∷ slice_chunk (map (name_at c.args.sessions.now) c.args.places.now) SCHEDULE_NAMES n) c.loop-n.n _ _ _ _ (ap (λ names. codes "schedule" ∷ names) part) c.loop-n.invariant c.in_ok-add_schedule_line.ensures

pub returns : goal.returns
unfolding schedule_lines
returns c =
    let names : List (List ℕ) = map (name_at c.args.sessions.now) c.args.places.now in
    let test = c.loop-n-test.false in
    let end = c.loop-n.auto.n-end in
    let last : c.loop-n.n ≡ c.div_ceil-n-end.result = omega arith in
    let count : c.loop-n.n ≡ div_ceil (length names) SCHEDULE_NAMES =
    last ∙ c.div_ceil-n-end.ensures ∙ ap (λ k. div_ceil k SCHEDULE_NAMES) (sym (length-map c.args.places.now (name_at c.args.sessions.now))) in
    c.loop-n.invariant ∙ ap (λ k. c.args.out.now.items ++ flat_map line_of (map (λ n. codes "schedule" ∷ slice_chunk names SCHEDULE_NAMES n) (range_with_len 0 k))) count
