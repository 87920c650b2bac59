-- A word is one number.
use Rattle.std.proofs.Common.{◌≡◌, ℕ, ◌<◌, ◌^◌, Option, Some, None, List, sym, subst, ◌∙◌, ap, arith}
use Rattle.std.specs.Prelude.{◌≢◌, decimal, Contains, SomeIff, MatchOption}
use Rattle.std.proofs.lemmas.Fmt.{decimal_injective}
use Rattle.alg_model.specs.Lattices.{first_edition}
use Rattle.lat_audit.proofs.ReadRows.{characteristic_small}
use Rattle.lat_audit.proofs.line_forms.characteristic.Goals as goal

found : (r : Option ℕ) (n : ℕ) (word ps : List ℕ) → n < 2 ^ 64
    → ((p : ℕ) → Contains ps p → p < 2 ^ 64) → SomeIff r (Contains ps n) n → word ≡ decimal n
    → MatchOption r ((p : ℕ) → Contains ps p → word ≢ decimal p)
    (λ p. Contains ps p × (word ≡ decimal p))
found None n word ps l small none e = λ p is f.
    let same : n ≡ p = decimal_injective n p l (small p is) (sym e ∙ f) in
    none (subst (Contains ps) (sym same) is)
found (Some x) n word ps l small some e =
    (subst (Contains ps) (sym some.1) some.0, e ∙ ap decimal (sym some.1))

pub returns-in-Some : goal.returns-in-Some
returns-in-Some c = found c.characteristic.result c.in-Some.number c.args.word.now first_edition.primes (omega (arith, c.in-Some.ensures.0)) (λ p is. let s : p < 32 = characteristic_small p is in omega (arith, s)) c.characteristic.ensures c.in-Some.ensures.1
