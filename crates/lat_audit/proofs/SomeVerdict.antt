-- Each text has a verdict.
use Rattle.std.proofs.Common.{ℕ, ◌<◌, Result, Ok, Err, List, length, ◌∙◌, ⊎_elim}
use Rattle.std.specs.Prelude.{◌≢◌, Contains}
use Rattle.std.proofs.lemmas.List.{get_or_default}
use Rattle.alg_model.specs.Lattices.{first_edition, field_at}
use Rattle.lat_audit.specs.Readings.{ended_lines, Content, Header, Reading, IsDump, lattice_of}
use Rattle.lat_audit.specs.Verdicts.{None, IsReducible, IsWrongImage, IsPrimeField, LacksIntersection, HoldsEmbeddings, KeepsIdentities, KeepsPrimeSubfields, KeepsInverses, KeepsCompositions, Judges}
use Rattle.lat_audit.specs.Verdicts.Judges.{good, bad_text, bad_field, bad_map, identity, prime_subfield, inverse, transitivity, intersection}
use Rattle.lat_audit.specs.Theorems.{TextHasVerdict}
use Rattle.lat_audit.specs.PrivateRules.{HoldsMaps, KeepsRules}
use Rattle.lat_audit.specs.declared.verdicts.AuditVerdict.{AuditVerdict}
use Rattle.lat_audit.specs.declared.verdicts.AuditVerdict.TheVariants.{Good, BadText, BadField, BadMap, BadRule, NoMemory}
use Rattle.lat_audit.proofs.SomeReading.{ArePolys, AreWithin, poly_at, some_reading, dump_sound}
use Rattle.lat_audit.proofs.SomeFaults.{field_or_none, image_or_none}
use Rattle.lat_audit.proofs.HeldMaps.{holds_maps}
use Rattle.lat_audit.proofs.TextLattices.{kept_dumped}
use Rattle.lat_audit.proofs.SomeRules.{identity_or_none, identities_kept, prime_subfield_or_none, prime_subfields_kept, inverse_or_none, inverses_kept, composition_or_none, compositions_kept, intersection_or_none, intersections_kept}

abbrev HasVerdict : List ℕ → Type 0
HasVerdict text = (verdict : AuditVerdict) × (verdict ≢ NoMemory) × Judges text verdict

-- the characteristic of a field is that of a prime field
prime_number : (c : Content) → ArePolys c.rows → (j : ℕ) → j < length c.rows
    → (q : ℕ) × IsPrimeField (lattice_of c) q j
prime_number c polys j l = in_table (poly_at c.rows polys j l).characteristic where
  in_table : Contains first_edition.primes (field_at c.rows j).characteristic
      → (q : ℕ) × IsPrimeField (lattice_of c) q j
  in_table (q, w, e) = (
    q,
    record {
      within = w;
      prime = get_or_default first_edition.primes q 0 (field_at c.rows j).characteristic w ∙ e;
    },
  )

module _ (text : List ℕ) (c : Content) (dump : IsDump text c) where
  sound : ArePolys c.rows × AreWithin c.rows c.images
  sound = dump_sound text c dump

  -- ---- the rules
  module _ (none_reducible : None (IsReducible c.rows)) (none_wrong : None (IsWrongImage c)) where
    embeddings : HoldsEmbeddings text c
    embeddings = record { dump = dump; fields = none_reducible; maps = none_wrong }

    maps : HoldsMaps (lattice_of c)
    maps = holds_maps c sound.0 sound.1 none_reducible none_wrong

    -- what no field breaks is kept
    rules_kept : KeepsCompositions text c → None (LacksIntersection (lattice_of c)) → KeepsRules (lattice_of c)
    rules_kept keeps none =
        let L = lattice_of c in
        let composed = compositions_kept L maps keeps.kept in
        record {
          identity = identities_kept L keeps.before.before.before.kept;
          prime_subfield = prime_subfields_kept L keeps.before.before.kept;
          inverse = λ i j li lj m s same. inverses_kept L maps keeps.before.kept i j m s same;
          composition = composed.composed;
          intersection = λ i j k li lj lk. intersections_kept L maps composed none i j k;
        }

    by_intersections : KeepsCompositions text c → HasVerdict text
    by_intersections keeps = ⊎_elim
        (λ ((i, j, k), first). (BadRule 6 i j k, (λ e. cc), intersection c keeps first))
        (λ none.
        let lattice = kept_dumped text c embeddings (rules_kept keeps none) in
        (Good (lattice_of c), (λ e. cc), good lattice.0 lattice.1))
        (intersection_or_none (lattice_of c) maps (compositions_kept (lattice_of c) maps keeps.kept))

    by_compositions : KeepsInverses text c → HasVerdict text
    by_compositions keeps = ⊎_elim
        (λ ((i, j, k), first). (BadRule 5 i j k, (λ e. cc), transitivity c keeps first))
        (λ none. by_intersections (record { before = keeps; kept = none }))
        (composition_or_none (lattice_of c) maps)

    by_inverses : KeepsPrimeSubfields text c → HasVerdict text
    by_inverses keeps = ⊎_elim
        (λ ((i, j), first). (BadRule 4 i j j, (λ e. cc), inverse c keeps first))
        (λ none. by_compositions (record { before = keeps; kept = none }))
        (inverse_or_none (lattice_of c) maps)

    by_prime_subfields : KeepsIdentities text c → HasVerdict text
    by_prime_subfields keeps = ⊎_elim
        (λ (j, first).
        let (q, prime) = prime_number c sound.0 j first.0.within in
        (BadRule 3 q j j, (λ e. cc), prime_subfield c keeps first prime))
        (λ none. by_inverses (record { before = keeps; kept = none }))
        (prime_subfield_or_none (lattice_of c))

    by_identities : HasVerdict text
    by_identities = ⊎_elim
        (λ (i, first). (BadRule 2 i i i, (λ e. cc), identity c embeddings first))
        (λ none. by_prime_subfields (record { embeddings = embeddings; kept = none }))
        (identity_or_none (lattice_of c))

  -- ---- the fields and the images
  by_images : None (IsReducible c.rows) → HasVerdict text
  by_images fields = ⊎_elim
      (λ ((i, j), first). (BadMap i j, (λ e. cc), bad_map c dump fields first))
      (λ none. by_identities fields none)
      (image_or_none c sound.1)

  by_fields : HasVerdict text
  by_fields = ⊎_elim
      (λ (i, first). (BadField i, (λ e. cc), bad_field c dump first))
      (λ none. by_images none)
      (field_or_none c.rows sound.0)

by_reading : (text : List ℕ) (r : Result Content ℕ) → Reading Header 1 (ended_lines text) r
    → HasVerdict text
by_reading text (Ok c) h = by_fields text c h
by_reading text (Err n) h = (BadText n, (λ e. cc), bad_text h)

-- **each text has a verdict**
pub verdict_exists : TextHasVerdict
verdict_exists text = let reading = some_reading text in by_reading text reading.0 reading.1
