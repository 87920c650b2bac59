-- A history leads to one lattice, which is compatible and has grown.
use Rattle.std.proofs.Common.{◌≡◌, ◌≤◌, List, [], ◌∷◌, ◌++◌, length, take, refl, sym, ap, ◌∙◌, subst, arith, length-take}
use Rattle.std.proofs.lemmas.List.{take-take}
use Rattle.alg_model.specs.Lattices as lattices
use Rattle.alg_model.specs.Lattices.{Lattice, Grows, IsEdition, IsCompatible}
use Rattle.alg_compatible.proofs.Laws.{opening_law, opening_one_law}
use Rattle.lat_core.specs.declared.replies.Entry.{Entry}
use Rattle.lat_core.specs.Histories.{Leads, IsAfter}
use Rattle.lat_core.specs.Theorems.{HistoryHasOneLattice, HistoryKeepsCompatible}
use Rattle.lat_core.proofs.StepDetermined.{reply_one}
use Rattle.lat_core.proofs.StepKeeps.{request_keeps, grows_itself}

-- what grows twice has grown
pub grows_twice : {L M N : Lattice} → Grows L M → Grows M N → Grows L N
grows_twice {L} {M} {N} G H = record {
  edition = H.edition ∙ G.edition;
  rows = sym (take-take (length L.rows) (length M.rows) N.rows fewer) ∙ ap (take (length L.rows)) H.rows ∙ G.rows;
  maps = λ s. H.maps (G.maps s);
}
  where
    fewer : length L.rows ≤ length M.rows
    fewer = omega (arith, length-take (length L.rows) M.rows, ap length G.rows)

-- one part after another
pub leads_append : (xs ys : List Entry) (L M N : Lattice) → Leads L xs M → Leads M ys N
    → Leads L (xs ++ ys) N
leads_append [] ys L M N e h = subst (λ K. Leads K ys N) e h
leads_append (x ∷ xs) ys L M N (K, proper, s, h) k = (K, proper, s, leads_append xs ys K M N h k)

-- and back
pub leads_split : (xs ys : List Entry) (L N : Lattice) → Leads L (xs ++ ys) N
    → (M : Lattice) × Leads L xs M × Leads M ys N
leads_split [] ys L N h = (L, refl, h)
leads_split (x ∷ xs) ys L N (K, proper, s, h) =
    let (M, first, rest) = leads_split xs ys K N h in (M, (K, proper, s, first), rest)

pub leads_keeps : (entries : List Entry) {L M : Lattice} → IsCompatible L → Leads L entries M
    → IsCompatible M × Grows L M
leads_keeps [] {L} C e = subst (λ K. IsCompatible K × Grows L K) (sym e) (C, grows_itself L)
leads_keeps (x ∷ xs) {L} {M} C (K, proper, s, h) =
    let (D, G) = request_keeps L x.request x.reply K C proper s in
    let (E, H) = leads_keeps xs D h in
    (E, grows_twice G H)

pub leads_one : (entries : List Entry) {L M N : Lattice} → IsCompatible L → Leads L entries M
    → Leads L entries N → M ≡ N
leads_one [] C e d = e ∙ sym d
leads_one (x ∷ xs) {L} {M} {N} C (K, proper, s, h) (J, also, t, k) =
    let same : K ≡ J = (reply_one L x.request x.reply x.reply K J C s t).1 in
    let (D, G) = request_keeps L x.request x.reply K C proper s in
    leads_one xs D h (subst (λ I. Leads I xs N) (sym same) k)

-- an opening lattice of an edition is compatible
opening_compatible : {edition : lattices.Edition} {entries : List Entry} {M : Lattice}
    → IsEdition edition → (a : IsAfter edition entries M) → IsCompatible a.opening
opening_compatible e a = opening_law a.opening (subst IsEdition (sym a.of_edition) e) a.is_opening

-- **a history leads to one lattice**
pub history_one : HistoryHasOneLattice
history_one edition entries M N e a b =
    let same : b.opening ≡ a.opening = opening_one_law b.opening a.opening (b.of_edition ∙ sym a.of_edition) b.is_opening a.is_opening in
    leads_one entries (opening_compatible e a) a.leads (subst (λ O. Leads O entries N) same b.leads)

-- **which is compatible and of the edition**
pub history_keeps : HistoryKeepsCompatible
history_keeps edition entries M e a =
    let (C, G) = leads_keeps entries (opening_compatible e a) a.leads in
    (C, G.edition ∙ a.of_edition)
