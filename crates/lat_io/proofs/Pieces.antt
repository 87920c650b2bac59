-- Lemmas on a list that is gone through in pieces.
use Rattle.std.proofs.Common.{◌≡◌, ℕ, ◌+◌, ◌-◌, List, ◌++◌, sym, ap, ◌∙◌, length, take, drop}
use Rattle.std.proofs.Math.Seq.{take-add}
use Rattle.std.proofs.lemmas.List.{take_rest, take-append-drop, drop-drop}

-- the first `done` and the first `count` of the rest are the first `done + count`
pub take-append-rest : (done count : ℕ) (l : List ℕ)
    → take done l ++ take count (take (length l - done) (drop done l)) ≡ take (done + count) l
take-append-rest done count l = ap (λ r. take done l ++ take count r) (take_rest l done) ∙ sym (take-add done count l)

-- what is left after `done` is a piece of it and what is left after that piece
pub rest-split : (done count : ℕ) (l piece : List ℕ)
    → piece ≡ take count (take (length l - done) (drop done l))
    → drop done l ≡ piece ++ drop (done + count) l
rest-split done count l piece e =
    sym (take-append-drop count (drop done l)) ∙ ap (λ r. r ++ drop count (drop done l)) (ap (take count) (sym (take_rest l done)) ∙ sym e) ∙ ap (λ r. piece ++ r) (drop-drop count done l)
