-- Which fields are declared.
use Rattle.std.proofs.Common.{◌≡◌, ℕ, ◌+◌, ◌<◌, List, [], length, get_or, slice_index_or, false, refl, sym, ap, ◌∙◌, subst, arith, rules}
use Rattle.std.specs.Prelude.{All}
use Rattle.std.proofs.lemmas.List.{length_push, get_or_default}
use Rattle.std.proofs.lemmas.List.Elements.{All-contains, All-take, All-weaker}
use Rattle.std.proofs.Math.Seq.{get_or-append_seam}
use Rattle.alg_model.specs.Coefficients.{primes}
use Rattle.alg_model.specs.Lattices as lattices
use Rattle.alg_model.specs.Lattices.{Lattice, Row, no_row}
use Rattle.alg_model.specs.Declaring.{IsDeclared}
use Rattle.alg_rings.proofs.Primes.{each_characteristic}
use Rattle.alg_compatible.proofs.Laws.{declaring_exists_law}
use Rattle.lat_core.specs.Editions.{edition_of}
use Rattle.lat_core.specs.Step.{IsWellFormed, declared_row, Declares}
use Rattle.lat_core.specs.Step.Declares.{malformed, already, taken, reducible, full, declared}
use Rattle.lat_core.specs.declared.digits.TheConstants.{MAX_DIGITS}
use Rattle.lat_core.specs.declared.editions.Edition.{Edition}
use Rattle.lat_core.specs.declared.editions.Edition.TheVariants.{One, Two}
use Rattle.lat_core.specs.declared.requests.Request.TheVariants.{Declare}
use Rattle.lat_core.specs.declared.replies.Reply.{Reply}
use Rattle.lat_core.specs.declared.replies.Reply.TheVariants.{Declared}
use Rattle.lat_core.proofs.StepDetermined.{reply_one}
use Rattle.lat_core.proofs.StepExists.{declared_is_row}
use Rattle.lat_insert.specs.Theorems.{IsDeclarable, IsNewField, DeclarableIsDeclared, OnlyDeclarableIsDeclared, DeclaredFieldIsNew, DeclarableHasDigits}

-- what is declarable is well formed
well_formed : {L : Lattice} {name : List ℕ} {p : ℕ} {f : List ℕ} → IsDeclarable L name p f
    → IsWellFormed L.edition p f
well_formed D = record {
  characteristic = D.characteristic;
  in_range = (D.above_one, D.within_top);
  coefficients = D.irreducible.polynomial.0;
  monic = D.monic;
}

-- the row is the last one
new_row : {L M : Lattice} (name : List ℕ) (p : ℕ) (f : List ℕ) → IsDeclared L (declared_row name p f) M
    → IsNewField L name p f M
new_row {L} {M} name p f d =
    let longer : length M.rows ≡ length L.rows + 1 = ap (λ (rows : List Row). length rows) d.rows ∙ length_push L.rows (declared_row name p f) in
    let at : slice_index_or M.rows (length L.rows) no_row ≡ declared_row name p f =
    ap (λ rows. slice_index_or rows (length L.rows) no_row) d.rows ∙ get_or-append_seam L.rows (declared_row name p f) [] no_row in
    record {
      count = longer;
      named = record { within = omega (arith, longer); named = ap (λ (r : Row). r.name) at };
      field = ap (λ (r : Row). r.field) at;
    }

-- **what is declarable is declared**
pub declarable_declared : DeclarableIsDeclared
declarable_declared L name p f C proper D =
    let w = well_formed D in
    let (M, d) = declaring_exists_law L (declared_row name p f) C (declared_is_row C proper w D.irreducible) in
    let room = D.room in
    (M, declared w D.free D.irreducible (omega (arith, room)) d, new_row name p f d)

-- by a step whose reply this is, what is declared was declarable
was_declarable : {L : Lattice} {name : List ℕ} {p : ℕ} {f : List ℕ} {reply : Reply} {M : Lattice}
    {n : ℕ} → Declares L name p f reply M → reply ≡ Declared n false
    → IsDeclarable L name p f × (n ≡ length L.rows) × IsNewField L name p f M
was_declarable (malformed m) e = cc
was_declarable (already w h same) e = cc
was_declarable (taken w h apart) e = cc
was_declarable (reducible w free g) e = cc
was_declarable (full w free i over) e = cc
was_declarable {L} {name} {p} {f} {n = n} (declared w free i room d) e =
    let number : length L.rows ≡ n = cc in (
      record {
        free = free;
        characteristic = w.characteristic;
        monic = w.monic;
        irreducible = i;
        above_one = w.in_range.0;
        within_top = w.in_range.1;
        room = omega (arith, room);
      },
      sym number,
      new_row name p f d,
    )

-- **and nothing else**
pub only_declarable : OnlyDeclarableIsDeclared
only_declarable L name p f reply M C proper step = (
  λ e. (was_declarable step e).0,
  λ D. let (N, other, new) = declarable_declared L name p f C proper D in
      (reply_one L (Declare name p f) reply (Declared (length L.rows) false) M N C step other).0,
)

-- **the field is there afterwards**
pub declared_new : DeclaredFieldIsNew
declared_new L name p f n M step =
    let h = was_declarable step refl in
    (h.1, h.2)

-- ---- in both editions
-- the characteristics are below 256, and the degrees below 64
all_bytes : All (λ p. p < 256) primes
all_bytes k d h = each_characteristic (λ p. p < 256) (search rules) (get_or primes k d) (k, h, get_or_default primes k _ d h)

primes_bytes : (e : Edition) → All (λ p. p < 256) (edition_of e).primes
primes_bytes One = All-take (λ p. p < 256) 11 primes all_bytes
primes_bytes Two = all_bytes

top_below : (e : Edition) → (edition_of e).top < MAX_DIGITS
top_below One = omega arith
top_below Two = omega arith

-- **a request can hold the polynomial**
pub declarable_digits : DeclarableHasDigits
declarable_digits L name p f e same D =
    let table : All (λ p. p < 256) L.edition.primes = subst (λ (d : lattices.Edition). All (λ p. p < 256) d.primes) (sym same) (primes_bytes e) in
    let byte : p < 256 = All-contains (λ p. p < 256) L.edition.primes p table D.characteristic in
    let top : L.edition.top ≡ (edition_of e).top = ap (λ (d : lattices.Edition). d.top) same in
    let low = D.above_one in
    let high = D.within_top in
    let below = top_below e in
    record {
      count = (omega (arith, low), omega (arith, low, high, top, below));
      bytes = All-weaker (λ a. a < p) (λ n. n < 256) (λ a l. omega (arith, l, byte)) f D.irreducible.polynomial.0;
    }
