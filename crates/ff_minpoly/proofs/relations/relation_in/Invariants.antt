use Rattle.std.proofs.Common.{◌≡◌, ℕ, ◌*◌, ◌<◌, ◌≤◌, length}
use Rattle.alg_model.specs.Maps.{degree_of}
use Rattle.ff_minpoly.specs.PrivateSpans.{IsTable, IsSpan}
use Rattle.ff_minpoly.specs.PrivateRelations.{product_place, IsDependent}
use Rattle.ff_minpoly.proofs.Products.{AreProducts}
use Rattle.ff_minpoly.proofs.relations.relation_in.Given as goal

abbrev pub invariant-loop-j : goal.invariant-loop-j
invariant-loop-j g l = let K = l.field in let block = l.initial.block in let m = l.j * length block in record {
  room : m ≤ degree_of K;
  len : length l.rows ≡ length l.initial.rows;
  table : IsTable g.row.W l.p l.n m l.rows l.pivots;
  span : IsSpan g.row.W l.p l.n m (product_place K block l.a) l.rows l.pivots;
  products : AreProducts K block l.a l.j l.block;
  least : (t : ℕ) → t < l.j → IsDependent K block l.a t → ⊥;
}
