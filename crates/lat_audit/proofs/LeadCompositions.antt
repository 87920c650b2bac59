-- Compositions are told by leaders.
use Rattle.std.proofs.Common.{◌≡◌, ℕ, ◌<◌, List, length, sym, ap, ◌∙◌, subst}
use Rattle.alg_model.specs.Maps.{Field, IsFiniteField, field_values, apply, comp, identity_map, IsEmbedding}
use Rattle.alg_model.specs.Lattices.{Lattice, Stored, field_at}
use Rattle.alg_galois.proofs.Embeddings.{apply_identity, apply_comp, apply_valid, comp_embedding, embeddings_equal}
use Rattle.lat_audit.specs.Verdicts.{HasInverse}
use Rattle.lat_audit.specs.PrivateRules.{HoldsMaps, KeepsInverse, KeepsComposition}
use Rattle.lat_audit.specs.PrivateLeaders.{leader, IsLed, AreLeaders, KeepsToLeaders}

-- ---- a map through leaders is the map itself
module _ (I A : Field) (U : IsFiniteField I) (T : IsFiniteField A) (n m : List (List ℕ))
    (N : IsEmbedding I A n) (M : IsEmbedding A I m) (is : comp I n m ≡ identity_map I) where
  undone : (x : List ℕ) → (field_values I).Valid x → apply I m (apply A n x) ≡ x
  undone x v = sym (apply_comp I A I U T U n m N M x v) ∙ ap (λ f. apply I f x) is ∙ apply_identity I U x v

module _ (I J K A B C : Field) (U : IsFiniteField I) (V : IsFiniteField J) (W : IsFiniteField K)
    (R : IsFiniteField A) (S : IsFiniteField B) (T : IsFiniteField C) (f g a a' b b' c c' : List (List ℕ))
    (F : IsEmbedding I J f) (G : IsEmbedding J K g)
    (M : IsEmbedding A I a) (M' : IsEmbedding I A a') (N : IsEmbedding B J b) (N' : IsEmbedding J B b')
    (O : IsEmbedding C K c) (O' : IsEmbedding K C c')
    (first : comp I a' a ≡ identity_map I) (second : comp J b' b ≡ identity_map J) (third : comp K c' c ≡ identity_map K) where
  -- f and g as maps between leaders
  abbrev pub f_led : List (List ℕ)
  f_led = comp B (comp J a f) b'

  abbrev pub g_led : List (List ℕ)
  g_led = comp C (comp K b g) c'

  f_from : IsEmbedding A J (comp J a f)
  f_from = comp_embedding A I J R U V a f M F

  g_from : IsEmbedding B K (comp K b g)
  g_from = comp_embedding B J K S V W b g N G

  f_is : IsEmbedding A B f_led
  f_is = comp_embedding A J B R V S (comp J a f) b' f_from N'

  g_is : IsEmbedding B C g_led
  g_is = comp_embedding B K C S W T (comp K b g) c' g_from O'

  both_is : IsEmbedding A C (comp C f_led g_led)
  both_is = comp_embedding A B C R S T f_led g_led f_is g_is

  in_is : IsEmbedding I C (comp C a' (comp C f_led g_led))
  in_is = comp_embedding I A C U R T a' (comp C f_led g_led) M' both_is

  pub through : comp K (comp C a' (comp C f_led g_led)) c ≡ comp K f g
  through = embeddings_equal I K U W (comp K (comp C a' (comp C f_led g_led)) c) (comp K f g)
      (comp_embedding I C K U T W (comp C a' (comp C f_led g_led)) c in_is O)
      (comp_embedding I J K U V W f g F G) same
    where
      same : (x : List ℕ) → (field_values I).Valid x
          → apply K (comp K (comp C a' (comp C f_led g_led)) c) x ≡ apply K (comp K f g) x
      same x v =
          let x' = apply A a' x in
          let v' = apply_valid I A U R a' M' x v in
          let y = apply J f x in
          let vy = apply_valid I J U V f F x v in
          let led_y = apply B b' y in
          let vly = apply_valid J B V S b' N' y vy in
          let z = apply K g y in
          let vz = apply_valid J K V W g G y vy in
          let in_j : apply J (comp J a f) x' ≡ y =
          apply_comp A I J R U V a f M F x' v' ∙ ap (apply J f) (undone I A U R a' a M' M first x v) in
          let in_b : apply B f_led x' ≡ led_y =
          apply_comp A J B R V S (comp J a f) b' f_from N' x' v' ∙ ap (apply B b') in_j in
          let in_k : apply K (comp K b g) led_y ≡ z =
          apply_comp B J K S V W b g N G led_y vly ∙ ap (apply K g) (undone J B V S b' b N' N second y vy) in
          let in_c : apply C g_led led_y ≡ apply C c' z =
          apply_comp B K C S W T (comp K b g) c' g_from O' led_y vly ∙ ap (apply C c') in_k in
          let whole : apply C (comp C a' (comp C f_led g_led)) x ≡ apply C c' z =
          apply_comp I A C U R T a' (comp C f_led g_led) M' both_is x v
          ∙ apply_comp A B C R S T f_led g_led f_is g_is x' v'
          ∙ ap (apply C g_led) in_b ∙ in_c in
          apply_comp I C K U T W (comp C a' (comp C f_led g_led)) c in_is O x v
          ∙ ap (apply K c) whole
          ∙ undone K C W T c' c O' O third z vz
          ∙ sym (apply_comp I J K U V W f g F G x v)

-- ---- all compositions are stored
module _ (L : Lattice) (H : HoldsMaps L) (leaders : List ℕ) (D : AreLeaders L leaders)
    (inverses : (i j : ℕ) → i < length L.rows → j < length L.rows → KeepsInverse L i j)
    (own : (i j : ℕ) → i < length L.rows → j < length L.rows → KeepsToLeaders L leaders i j)
    (leads : (i j k : ℕ) → i < length L.rows → j < length L.rows → k < length L.rows
    → leader leaders i ≡ i → leader leaders j ≡ j → leader leaders k ≡ k → KeepsComposition L i j k) where
  led : (i : ℕ) → i < length L.rows → IsLed L leaders i
  led i l = D.led i (subst (λ n. i < n) (sym D.count) l)

  lead_within : (i : ℕ) → i < length L.rows → leader leaders i < length L.rows
  lead_within i l = subst (λ n. leader leaders i < n) D.count (led i l).within

  way_back : (i : ℕ) (l : i < length L.rows)
      → (n : List (List ℕ)) × HasInverse L (leader leaders i) i (led i l).isomorphic.map n
  way_back i l =
      let is = (led i l).isomorphic in
      inverses (leader leaders i) i (lead_within i l) l is.map is.stored is.degree

  pub all_by_leaders : (i j k : ℕ) → i < length L.rows → j < length L.rows → k < length L.rows → KeepsComposition L i j k
  all_by_leaders i j k li lj lk f g F G =
      let a = leader leaders i in
      let b = leader leaders j in
      let c = leader leaders k in
      let la = lead_within i li in
      let lb = lead_within j lj in
      let lc = lead_within k lk in
      let m = (led i li).isomorphic in
      let n = (led j lj).isomorphic in
      let o = (led k lk).isomorphic in
      let m' = way_back i li in
      let n' = way_back j lj in
      let o' = way_back k lk in
      let A = field_at L.rows a in
      let B = field_at L.rows b in
      let C = field_at L.rows c in
      let I = field_at L.rows i in
      let J = field_at L.rows j in
      let K = field_at L.rows k in
      let f_from = (own i j li lj).from_leader m.map f m.stored F in
      let f_led = (own a j la lj).to_leader (comp J m.map f) n'.0 f_from n'.1.stored in
      let g_from = (own j k lj lk).from_leader n.map g n.stored G in
      let g_led = (own b k lb lk).to_leader (comp K n.map g) o'.0 g_from o'.1.stored in
      let both = leads a b c la lb lc (led i li).own (led j lj).own (led k lk).own
      (comp B (comp J m.map f) n'.0) (comp C (comp K n.map g) o'.0) f_led g_led in
      let whole = comp C (comp B (comp J m.map f) n'.0) (comp C (comp K n.map g) o'.0) in
      let into = (own i c li lc).by_leader m'.0 whole m'.1.stored both in
      let here = (own i k li lk).by_other (comp C m'.0 whole) o.map into o.stored in
      subst (λ x. Stored L i k x)
      (through I J K A B C (H.finite i li) (H.finite j lj) (H.finite k lk) (H.finite a la) (H.finite b lb) (H.finite c lc)
      f g m.map m'.0 n.map n'.0 o.map o'.0 (H.embedding i j f F) (H.embedding j k g G)
      (H.embedding a i m.map m.stored) (H.embedding i a m'.0 m'.1.stored)
      (H.embedding b j n.map n.stored) (H.embedding j b n'.0 n'.1.stored)
      (H.embedding c k o.map o.stored) (H.embedding k c o'.0 o'.1.stored)
      m'.1.forth n'.1.forth o'.1.forth) here
