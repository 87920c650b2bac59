-- A text has one verdict.
use Rattle.std.proofs.Common.{◌≡◌, ℕ, List, Result, Ok, Err, sym, refl, ap, ◌∙◌, subst, inl, inr, nat_cmp, Ordering, Less, Equal, Greater}
use Rattle.std.specs.Prelude.{◌≢◌, ◌⊎◌}
use Rattle.std.specs.Cmp.{IsTotalOrder}
use Rattle.std.specs.FinMap.{IsAntisymmetric, nat_cmp-IsAntisymmetric}
use Rattle.std.specs.Ordering.{ordering_then, ordering_reverse}
use Rattle.std.proofs.lemmas.Cmp.{nat_cmp_total, on_total, then_total}
use Rattle.alg_model.specs.Lattices.{Lattice, pair_cmp, IsCompatible}
use Rattle.alg_compatible.proofs.Tables.{pair_total, pair_antisymmetric}
use Rattle.lat_audit.specs.Dumps.{dump_text}
use Rattle.lat_audit.specs.Readings.{Content, IsDump, IsBadLine, lattice_of}
use Rattle.lat_audit.specs.Theorems.{TextHasOneVerdict, LatticeHasOneSpelling, DumpIsGood}
use Rattle.lat_audit.specs.Verdicts.{IsFirst, None, Triple, triple_cmp, IsReducible, IsWrongImage, IsPrimeField, LacksIdentity, LacksPrimeSubfield, LacksInverse, LacksComposition, LacksIntersection, HoldsEmbeddings, IsDumped, Judges, good, bad_text, bad_field, bad_map, identity, prime_subfield, inverse, transitivity, intersection, no_memory}
use Rattle.lat_audit.specs.declared.verdicts.AuditVerdict.{AuditVerdict}
use Rattle.lat_audit.specs.declared.verdicts.AuditVerdict.TheVariants.{Good, BadText, BadField, BadMap, BadRule, NoMemory}
use Rattle.lat_audit.proofs.CompatibleRules.{identities_stored, prime_subfields_stored, inverses_stored, compositions_stored, intersections_stored}
use Rattle.lat_audit.proofs.DumpedContents.{dumped_content}
use Rattle.lat_audit.proofs.OneReading.{one_reading}
use Rattle.lat_audit.proofs.RuleOrders.{one_prime}

-- ---- a first place is the only one
triple_total : IsTotalOrder triple_cmp
triple_total = then_total (on_total (λ (a : Triple). a.0) nat_cmp_total)
    (then_total (on_total (λ (a : Triple). a.1) nat_cmp_total) (on_total (λ (a : Triple). a.2) nat_cmp_total))

both_tie : (a b : Ordering) → ordering_then a b ≡ Equal → (a ≡ Equal) × (b ≡ Equal)
both_tie Less b e = cc
both_tie Equal b e = (refl, e)
both_tie Greater b e = cc

triple_antisymmetric : IsAntisymmetric triple_cmp
triple_antisymmetric s t e =
    let tie = both_tie (nat_cmp s.0 t.0) (pair_cmp (s.1, s.2) (t.1, t.2)) e in
    let first : s.0 ≡ t.0 = nat_cmp-IsAntisymmetric s.0 t.0 tie.0 in
    let rest : ◌≡◌ {A = ℕ × ℕ} (s.1, s.2) (t.1, t.2) = pair_antisymmetric (s.1, s.2) (t.1, t.2) tie.1 in
    λ i. (first i, (rest i).0, (rest i).1)

module _ {A : Type 0} {cmp : A → A → Ordering} (total : IsTotalOrder cmp)
    (antisymmetric : IsAntisymmetric cmp) where
  one_first : (P : A → Type 0) (a b : A) → IsFirst cmp P a → IsFirst cmp P b → a ≡ b
  one_first P a b first other = by_order (cmp a b) refl
    where
      by_order : (r : Ordering) → cmp a b ≡ r → a ≡ b
      by_order Less e = absurd (other.1 a e first.0)
      by_order Equal e = antisymmetric a b e
      by_order Greater e = absurd (first.1 b (total.antisymm b a ∙ ap ordering_reverse e) other.0)

-- ---- verdicts by stages
-- the first place of a fault tells the verdict, or there is no such fault and the verdict is that of
-- the later stages
abbrev Stage : {A : Type 0} → (A → A → Ordering) → (A → Type 0) → (A → AuditVerdict → Type 0)
    → (AuditVerdict → Type 0) → AuditVerdict → Type 0
Stage {A} cmp P Tells Later v = ((a : A) × IsFirst cmp P a × Tells a v) ⊎ (None P × Later v)

abbrev HasOne : (AuditVerdict → Type 0) → Type 0
HasOne Is = (v w : AuditVerdict) → Is v → Is w → v ≡ w

module _ {A : Type 0} {cmp : A → A → Ordering} (total : IsTotalOrder cmp)
    (antisymmetric : IsAntisymmetric cmp) where
  one_stage : (P : A → Type 0) (Tells : A → AuditVerdict → Type 0) (Later : AuditVerdict → Type 0)
      → ((a : A) → HasOne (Tells a)) → HasOne Later → HasOne (Stage cmp P Tells Later)
  one_stage P Tells Later tells later v w (inl (a, first, told)) (inl (b, other, also)) =
      let same = one_first total antisymmetric P a b first other in
      tells a v w told (subst (λ c. Tells c w) (sym same) also)
  one_stage P Tells Later tells later v w (inl (a, first, told)) (inr (none, rest)) = absurd (none a first.0)
  one_stage P Tells Later tells later v w (inr (none, rest)) (inl (b, other, also)) = absurd (none b other.0)
  one_stage P Tells Later tells later v w (inr (none, rest)) (inr (never, more)) = later v w rest more

-- what the rules of a lattice tell, rule by rule
module _ (L : Lattice) where
  abbrev ByIntersections : AuditVerdict → Type 0
  ByIntersections = Stage triple_cmp (LacksIntersection L) (λ t v. v ≡ BadRule 6 t.0 t.1 t.2) (λ v. v ≡ Good L)

  abbrev ByCompositions : AuditVerdict → Type 0
  ByCompositions = Stage triple_cmp (LacksComposition L) (λ t v. v ≡ BadRule 5 t.0 t.1 t.2) ByIntersections

  abbrev ByInverses : AuditVerdict → Type 0
  ByInverses = Stage pair_cmp (LacksInverse L) (λ p v. v ≡ BadRule 4 p.0 p.1 p.1) ByCompositions

  abbrev ByPrimeSubfields : AuditVerdict → Type 0
  ByPrimeSubfields = Stage nat_cmp (LacksPrimeSubfield L)
      (λ j v. (q : ℕ) × IsPrimeField L q j × (v ≡ BadRule 3 q j j)) ByInverses

  abbrev ByRules : AuditVerdict → Type 0
  ByRules = Stage nat_cmp (LacksIdentity L) (λ i v. v ≡ BadRule 2 i i i) ByPrimeSubfields

-- what a content tells: its fields, its maps and then its rules
module _ (c : Content) where
  abbrev ByMaps : AuditVerdict → Type 0
  ByMaps = Stage pair_cmp (IsWrongImage c) (λ p v. v ≡ BadMap p.0 p.1) (ByRules (lattice_of c))

  abbrev ByFields : AuditVerdict → Type 0
  ByFields = Stage nat_cmp (IsReducible c.rows) (λ i v. v ≡ BadField i) ByMaps

one_equal : (u : AuditVerdict) → HasOne (λ v. v ≡ u)
one_equal u v w e f = e ∙ sym f

one_prime_fault : (c : Content) (j : ℕ)
    → HasOne (λ v. (q : ℕ) × IsPrimeField (lattice_of c) q j × (v ≡ BadRule 3 q j j))
one_prime_fault c j v w (p, is, e) (q, also, f) =
    e ∙ ap (λ n. BadRule 3 n j j) (one_prime (lattice_of c) refl p q j is also) ∙ sym f

-- **what a content tells is one verdict**
module _ (c : Content) where
  one_by_compositions : HasOne (ByCompositions (lattice_of c))
  one_by_compositions =
      one_stage triple_total triple_antisymmetric (LacksComposition (lattice_of c))
      (λ t v. v ≡ BadRule 5 t.0 t.1 t.2) (ByIntersections (lattice_of c))
      (λ t. one_equal (BadRule 5 t.0 t.1 t.2))
      (one_stage triple_total triple_antisymmetric (LacksIntersection (lattice_of c))
      (λ t v. v ≡ BadRule 6 t.0 t.1 t.2) (λ v. v ≡ Good (lattice_of c))
      (λ t. one_equal (BadRule 6 t.0 t.1 t.2)) (one_equal (Good (lattice_of c))))

  one_by_prime_subfields : HasOne (ByPrimeSubfields (lattice_of c))
  one_by_prime_subfields =
      one_stage nat_cmp_total nat_cmp-IsAntisymmetric (LacksPrimeSubfield (lattice_of c))
      (λ j v. (q : ℕ) × IsPrimeField (lattice_of c) q j × (v ≡ BadRule 3 q j j)) (ByInverses (lattice_of c))
      (one_prime_fault c)
      (one_stage pair_total pair_antisymmetric (LacksInverse (lattice_of c))
      (λ p v. v ≡ BadRule 4 p.0 p.1 p.1) (ByCompositions (lattice_of c))
      (λ p. one_equal (BadRule 4 p.0 p.1 p.1)) one_by_compositions)

  one_by_maps : HasOne (ByMaps c)
  one_by_maps =
      one_stage pair_total pair_antisymmetric (IsWrongImage c)
      (λ p v. v ≡ BadMap p.0 p.1) (ByRules (lattice_of c))
      (λ p. one_equal (BadMap p.0 p.1))
      (one_stage nat_cmp_total nat_cmp-IsAntisymmetric (LacksIdentity (lattice_of c))
      (λ i v. v ≡ BadRule 2 i i i) (ByPrimeSubfields (lattice_of c))
      (λ i. one_equal (BadRule 2 i i i)) one_by_prime_subfields)

  one_by_fields : HasOne (ByFields c)
  one_by_fields =
      one_stage nat_cmp_total nat_cmp-IsAntisymmetric (IsReducible c.rows)
      (λ i v. v ≡ BadField i) (ByMaps c) (λ i. one_equal (BadField i)) one_by_maps

-- ---- the verdict on a text
-- a text has a first bad line, or it is a dump whose content tells the verdict
abbrev Tells : List ℕ → AuditVerdict → Type 0
Tells text v = ((n : ℕ) × IsBadLine text n × (v ≡ BadText n))
    ⊎ ((c : Content) × IsDump text c × ByFields c v)

-- no text has both
not_both : (text : List ℕ) (n : ℕ) (c : Content) → IsBadLine text n → IsDump text c → ⊥
not_both text n c bad dump =
    let read : ◌≡◌ {A = Result Content ℕ} (Err n) (Ok c) = one_reading text (Err n) (Ok c) bad dump in cc

one_told : (text : List ℕ) → HasOne (Tells text)
one_told text v w (inl (m, bad, is)) (inl (n, worse, also)) =
    let read : ◌≡◌ {A = Result Content ℕ} (Err m) (Err n) = one_reading text (Err m) (Err n) bad worse in
    let same : m ≡ n = cc in
    is ∙ ap (λ k. BadText k) same ∙ sym also
one_told text v w (inl (m, bad, is)) (inr (c, dump, told)) = absurd (not_both text m c bad dump)
one_told text v w (inr (c, dump, told)) (inl (m, bad, is)) = absurd (not_both text m c bad dump)
one_told text v w (inr (c, dump, told)) (inr (d, other, also)) =
    let read : ◌≡◌ {A = Result Content ℕ} (Ok c) (Ok d) = one_reading text (Ok c) (Ok d) dump other in
    let same : c ≡ d = cc in
    one_by_fields c v w told (subst (λ (e : Content). ByFields e w) (sym same) also)

-- a content whose fields are irreducible and whose images are those of embeddings tells what its
-- rules tell
by_rules : (text : List ℕ) (c : Content) (v : AuditVerdict) → HoldsEmbeddings text c
    → ByRules (lattice_of c) v → Tells text v
by_rules text c v holds told = inr (c, holds.dump, inr (holds.fields, inr (holds.maps, told)))

-- a compatible lattice is good
by_compatible : (M : Lattice) → IsCompatible M → ByRules M (Good M)
by_compatible M C = inr (
  identities_stored M C,
  inr (
    prime_subfields_stored M C,
    inr (inverses_stored M C, inr (compositions_stored M C, inr (intersections_stored M C, refl))),
  ),
)

-- a text that is judged good is the dump of the lattice
dump_judged : (text : List ℕ) (M : Lattice) → Judges text (Good M) → text ≡ dump_text M
dump_judged text M (good dumped is) = is

by_dump : (text : List ℕ) (M : Lattice) → IsDumped M → text ≡ dump_text M → Tells text (Good M)
by_dump text M dumped is =
    let (c, dump, same, fields, maps) = dumped_content M dumped in
    by_rules text c (Good M)
    (record { dump = subst (λ t. IsDump t c) (sym is) dump; fields = fields; maps = maps })
    (subst (λ (K : Lattice). ByRules K (Good M)) (sym same) (by_compatible M dumped.compatible))

-- a verdict is what the text tells
told : (text : List ℕ) (v : AuditVerdict) → v ≢ NoMemory → Judges text v → Tells text v
told text v some (good {L = M} dumped is) = by_dump text M dumped is
told text v some (bad_text {n} bad) = inl (n, bad, refl)
told text v some (bad_field c {i} dump first) = inr (c, dump, inl (i, first, refl))
told text v some (bad_map c {i} {j} dump fields first) = inr (c, dump, inr (fields, inl ((i, j), first, refl)))
told text v some (identity c {i} holds first) = by_rules text c (BadRule 2 i i i) holds (inl (i, first, refl))
told text v some (prime_subfield c {q} {j} keeps first prime) =
    by_rules text c (BadRule 3 q j j) keeps.embeddings (inr (keeps.kept, inl (j, first, (q, prime, refl))))
told text v some (inverse c {i} {j} keeps first) =
    let before = keeps.before in
    by_rules text c (BadRule 4 i j j) before.embeddings
    (inr (before.kept, inr (keeps.kept, inl ((i, j), first, refl))))
told text v some (transitivity c {i} {j} {k} keeps first) =
    let primes = keeps.before in
    let identities = primes.before in
    by_rules text c (BadRule 5 i j k) identities.embeddings
    (inr (identities.kept, inr (primes.kept, inr (keeps.kept, inl ((i, j, k), first, refl)))))
told text v some (intersection c {i} {j} {k} keeps first) =
    let inverses = keeps.before in
    let primes = inverses.before in
    let identities = primes.before in
    by_rules text c (BadRule 6 i j k) identities.embeddings
    (inr (identities.kept, inr (primes.kept, inr (inverses.kept, inr (keeps.kept, inl ((i, j, k), first, refl))))))
told text v some no_memory = absurd (some refl)

-- **a text has one verdict**
pub text_has_one_verdict : TextHasOneVerdict
text_has_one_verdict text v w some other judged also =
    one_told text v w (told text v some judged) (told text w other also)

-- **the dump of a lattice is judged good**
pub dump_is_judged_good : DumpIsGood
dump_is_judged_good M v dumped some judged =
    text_has_one_verdict (dump_text M) v (Good M) some (λ e. cc) judged (good dumped refl)

-- **a lattice has one spelling**
pub lattice_has_one_spelling : LatticeHasOneSpelling
lattice_has_one_spelling M N text other first second = (
  λ e. let judged = subst (λ t. Judges t (Good M)) e first in
      let same : Good M ≡ Good N =
      text_has_one_verdict other (Good M) (Good N) (λ f. cc) (λ f. cc) judged second in
      cc,
  λ e. dump_judged text M first ∙ ap dump_text e ∙ sym (dump_judged other N second),
)
