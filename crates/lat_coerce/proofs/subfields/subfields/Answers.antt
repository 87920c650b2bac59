use Rattle.std.proofs.Common.{◌≡◌, length, refl, sym, ◌∙◌, subst, arith}
use Rattle.lat_core.specs.Answers.{IsSubfields}
use Rattle.lat_coerce.specs.PrivateSearches.{AreSubfieldsBelow}
use Rattle.lat_coerce.proofs.StoredPairs.{tells_true, tells_false}
use Rattle.lat_coerce.proofs.StoredSubfields.{subfields_skip, subfields_push, subfields_all}
use Rattle.lat_coerce.proofs.subfields.subfields.Goals as goal
use Rattle.lat_coerce.proofs.subfields.subfields.Goals.{then-is_stored, else-is_stored}

pub loop-number-preserved : goal.loop-number-preserved
loop-number-preserved c = elim c.if-is_stored.branch [
  | then-is_stored w ↦ rw w.numbers-is (rw w.push.ensures.items
      (subfields_push refl c.loop-number.invariant (tells_true _ c.is_stored.ensures.stored w.if-is_stored.true)))
  | else-is_stored w ↦ rw w.numbers-is
      (subfields_skip refl c.loop-number.invariant (tells_false _ c.is_stored.ensures.stored w.if-is_stored.false))
]

pub returns : goal.returns
returns c =
    let all : c.loop-number.number ≡ length c.args.lattice.now.rows = omega arith in
    record {
      exactly = subst (λ ns. IsSubfields c.args.lattice.now c.args.field ns) (sym (c.of.ensures ∙ c.as_slice.ensures.value))
          (subfields_all c.edition-edition.ensures.whole
          (subst (λ n. AreSubfieldsBelow c.args.lattice.now c.args.field n c.loop-number.numbers.items) all c.loop-number.invariant));
    }
