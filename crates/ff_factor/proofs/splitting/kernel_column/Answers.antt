use Rattle.std.proofs.Common.{◌≡◌, slice_index_or, ap, sym, ◌∙◌, subst}
use Rattle.alg_rings.proofs.ResidueFields.{residues_field, residues_propositional}
use Rattle.ff_factor.specs.PrivateSplitting.{IsNonzeroKernelColumn}
use Rattle.ff_factor.proofs.KernelMembers.{kernel_member}
use Rattle.ff_factor.proofs.splitting.kernel_column.Goals as goal

pub returns : goal.returns
returns c =
    let p = c.args.m.now.prime in
    let k = kernel_member (residues_propositional p) (residues_field p c.prime-prime.ensures.whole.characteristic) c.args.m.now.matrix
    c.kernel-basis.result (c.kernel-basis.ensures c.args.m.now c.requires.echelon) c.requires.dependent in
    let d = c.index-items-0.result in
    let same : slice_index_or c.kernel-basis.result 0 d ≡ c.copy.result =
    sym (c.copy.ensures ∙ c.index-items-0.is ∙ ap (λ xs. slice_index_or xs 0 d) c.items.ensures.value) in
    subst (IsNonzeroKernelColumn p c.args.m.now.matrix) same (record { column = (k.member d).0; sent = (k.member d).1; not_zero = k.not_zero d })
