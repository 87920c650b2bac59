-- What a session that adds amounts knows afterwards.
--     HasOnly n k        its pass has the number n and no other
--     Adds k e k'        it published one entry more
--     Sees k k'          it gave the machine back as it was
--     number_of entry    the number of the pass that added it
--     tally n count      amounts of the number n, from 0 on
use Rattle.std.specs.Prelude.{◌≡◌, ℕ, zero, suc, List, [], ◌∷◌, ◌++◌}
use Rattle.lat_gate.specs.History.{BeginsWith}
use Rattle.lat_gate.specs.Seats.{Known, published, informed}
use Rattle.lat_gate.specs.declared.amounts.Amount.{Amount}

module _ {E : Type 0} where
  -- n is the one number of the pass
  abbrev pub HasOnly : ℕ → Known E → Type 0
  HasOnly n k = (mine : List E) × (k.own ≡ (n, mine) ∷ [])

  -- the pass has published this entry, after some history that begins with what it had seen
  abbrev pub Adds : Known E → E → Known E → Type 0
  Adds k e k' = (log : List E) × BeginsWith log k.seen × (k' ≡ published k (log ++ e ∷ []) e)

  -- the pass has seen some history that begins with what it had seen
  abbrev pub Sees : Known E → Known E → Type 0
  Sees k k' = (log : List E) × BeginsWith log k.seen × (k' ≡ informed k log)

  -- the pass is as before, but for what it has seen and its own lists
  abbrev pub IsSamePass : Known E → Known E → Type 0
  IsSamePass k k' = (k'.gate ≡ k.gate) × (k'.setting ≡ k.setting) × (k'.opening ≡ k.opening)
      × (k'.passes ≡ k.passes)

-- the number of the pass that added an amount
abbrev pub number_of : Amount → ℕ
number_of entry = entry.number

-- as many amounts of the number n as said: 0, 1, 2 and so on
abbrev pub tally : ℕ → ℕ → List Amount
tally n zero = []
tally n (suc count) = tally n count ++ record { number = n; amount = count } ∷ []
