-- What players do is what happens in the world that they stand for.
use Rattle.std.proofs.Common.{◌≡◌, ℕ, suc, ◌+◌, ◌<◌, ◌≤◌, ◌-◌, List, [], ◌∷◌, ◌++◌, length, map, take, set, replicate, refl, sym, ap, ◌∙◌, subst, arith, inl, inr, append-nil, append_assoc, get_or-set_same, get_or-set_other, set-set, take-suc, drop-drop, add-zero, add-one, drop}
use Rattle.std.specs.Prelude.{pred, slice_index_or, Result, Ok, Err, OnOk}
use Rattle.std.proofs.lemmas.Grind.{flat_map-append}
use Rattle.std.proofs.lemmas.List.{replicate-append-replicate, map-append, get_or-drop, drop-set-lt, length-drop, length-take, map-set, get_or-map, get_or_past, set_past, length-map, length-set}
use Rattle.std.proofs.lemmas.List.Sums.{sum_by-set}
use Rattle.std.proofs.Math.Seq.{map-set_same}
use Rattle.std.proofs.lemmas.Bool.{cases_eq}
use Rattle.alg_model.specs.Lattices as lattices
use Rattle.lat_core.specs.declared.outcomes.Line.{Line}
use Rattle.lat_language.specs.Texts.{line_text}
use Rattle.lat_session.specs.Outcomes.{Operations}
use Rattle.lat_history.specs.Books.{History}
use Rattle.lat_playing.specs.declared.players.Player.{Player}
use Rattle.lat_playing.specs.Worlds.{SessionState, World, new_session, session_at, rest_from, HasLine, Happens, Runs}
use Rattle.lat_playing.specs.Worlds.Happens.{nothing, plays}
use Rattle.lat_playing.specs.PrivatePlays.{Shown, shown, shown_player, Shows, IsReady, left_counts, left_count, AreReady, PlaysLine, Advances, HasPlayed}
use Rattle.lat_playing.specs.PrivatePlays.PlaysLine.{nothing as no_line, plays as next_line}

-- ---- events, one after the other
pub runs_append : (edition : lattices.Edition) (operations : Operations) (first later : List ℕ)
    (u v w : World) → Runs edition operations first u v → Runs edition operations later v w
    → Runs edition operations (first ++ later) u w
runs_append edition operations [] later u v w same h = subst (λ x. Runs edition operations later x w) same h
runs_append edition operations (n ∷ first) later u v w (x, here, more) h =
    (x, here, runs_append edition operations first later x v w more h)

pub advances_none : (operations : Operations) (h : History) (players : List Player)
    → Advances operations [] h players h players
advances_none operations h players =
    record { edition = refl; room = refl; fewer = omega arith; same_players = refl; runs = λ w s. (w, refl, s) }

pub advances_more : (operations : Operations) (h h' h'' : History)
    (players players' players'' : List Player) (first later : List ℕ)
    → Advances operations first h players h' players'
    → Advances operations later h' players' h'' players''
    → Advances operations (first ++ later) h players h'' players''
advances_more operations h h' h'' players players' players'' first later a b = record {
  edition = b.edition ∙ a.edition;
  room = b.room ∙ a.room;
  fewer = omega (arith, a.fewer, b.fewer);
  same_players = b.same_players ∙ a.same_players;
  runs = λ u s.
      let (v, one, t) = a.runs u s in
      let (w, two, r) = b.runs v t in
      (w, runs_append h.edition operations first later u v w one (subst (λ e. Runs e operations later v w) a.edition two), r);
}

-- ---- one event
module _ (h : History) (players : List Player) (place : ℕ) (d : Player) where
  -- the player at the place is the session of the world there
  shown_at : (w : World) → place < length players → Shows w h players
      → shown (session_at w.sessions place) ≡ shown_player (slice_index_or players place d)
  shown_at w within s =
      let same : length w.sessions ≡ length players = sym (length-map w.sessions shown) ∙ ap length s.sessions ∙ length-map players shown_player in
      sym (get_or-map shown w.sessions place (new_session 0 []) (shown_player d) (omega (arith, same, within)))
      ∙ ap (λ xs. slice_index_or xs place (shown_player d)) s.sessions
      ∙ get_or-map shown_player players place d (shown_player d) within

  module _ (operations : Operations) (h' : History) (p' : Player) (within : place < length players)
      (ready : IsReady h place (slice_index_or players place d)) where
    here : Player
    here = slice_index_or players place d

    -- the session after its next command
    abbrev state_after : World → Line → SessionState
    state_after w l = record {
      variables = p'.session;
      front = p'.pass.front;
      left = p'.left.now;
      lines = (session_at w.sessions place).lines ++ l ∷ [];
    }

    text_after : (w : World) (l : Line) → Shows w h players
        → p'.text.items ≡ (slice_index_or players place d).text.items ++ line_text l
        → shown (state_after w l) ≡ shown_player p'
    text_after w l s text =
        let before = ap (λ (x : Shown). x.text) (shown_at w within s) in
        ap (λ (t : List ℕ). record { variables = p'.session; front = p'.pass.front; left = p'.left.now; text = t })
        (flat_map-append line_text (session_at w.sessions place).lines (l ∷ [])
        ∙ ap (λ (t : List ℕ). t ++ (line_text l ++ [])) before
        ∙ ap (λ (t : List ℕ). (slice_index_or players place d).text.items ++ t) (append-nil (line_text l))
        ∙ sym text)

    happens : (w : World) → Shows w h players
        → PlaysLine operations h (slice_index_or players place d) h' p'
        → (w' : World) × Happens h.edition operations place w w'
        × Shows w' h' (set players place p')
    happens w s (no_line none same kept) = (
      w,
      nothing (ap (λ (x : Shown). x.left) (shown_at w within s) ∙ none),
      record {
        history = s.history ∙ ap (λ (g : History). g.entries) (sym same);
        sessions = s.sessions ∙ sym (map-set_same shown_player players place p' d kept);
      },
    )
    happens w s (next_line {command} {line} next has text) =
        let e = shown_at w within s in
        let numbered : HasLine h.edition operations place h.entries (slice_index_or players place d).session (slice_index_or players place d).pass.front command h'.entries p'.session p'.pass.front line =
        subst (λ n. HasLine h.edition operations n h.entries (slice_index_or players place d).session (slice_index_or players place d).pass.front command h'.entries p'.session p'.pass.front line) ready.numbered has in
        let shown_line : HasLine h.edition operations place h.entries (session_at w.sessions place).variables (session_at w.sessions place).front command h'.entries p'.session p'.pass.front line =
        subst (λ (x : Shown). HasLine h.edition operations place h.entries x.variables x.front command h'.entries p'.session p'.pass.front line) (sym e) numbered in
        let of_world : HasLine h.edition operations place w.history (session_at w.sessions place).variables (session_at w.sessions place).front command h'.entries p'.session p'.pass.front line =
        subst (λ es. HasLine h.edition operations place es (session_at w.sessions place).variables (session_at w.sessions place).front command h'.entries p'.session p'.pass.front line) (sym s.history) shown_line in
        let same : length w.sessions ≡ length players = sym (length-map w.sessions shown) ∙ ap length s.sessions ∙ length-map players shown_player in (
          record { history = h'.entries; sessions = set w.sessions place (state_after w line) },
          plays (omega (arith, same, within)) (record {
            command = command;
            line = line;
            next = ap (λ (x : Shown). x.left) e ∙ next;
            has_line = of_world;
            lines = refl;
          }),
          record {
            history = refl;
            sessions = map-set shown w.sessions place (state_after w line)
                ∙ ap (λ xs. set xs place (shown (state_after w line))) s.sessions
                ∙ ap (λ (x : Shown). set (map shown_player players) place x) (text_after w line s text)
                ∙ sym (map-set shown_player players place p');
          },
        )

  module _ (h' : History) (p' : Player) (within : place < length players)
      (ready : AreReady h players)
      {operations : Operations} (played : HasPlayed operations h (slice_index_or players place d) h' p') where
    fewer_after : length h'.entries + left_count (set players place p')
        ≤ length h.entries + left_count players
    fewer_after = omega (
      arith,
      played.entries,
      sum_by-set (λ (p : Player). length p.left.now) players place p' d within,
    )

    -- **the players go on by one event**
    pub advances_one : Advances operations (place ∷ []) h players h' (set players place p')
    advances_one = record {
      edition = played.moves.edition;
      room = played.moves.room;
      fewer = fewer_after;
      same_players = length-set players place p';
      runs = λ w s.
          let (v, happened, t) = happens operations h' p' within (ready.each place d within) w s played.line in
          (v, (v, happened, refl), t);
    }

    -- **and can go on**
    each_after : (k : ℕ) (e : Player) → k < length (set players place p')
        → IsReady h' k (slice_index_or (set players place p') k e)
    each_after k e l = elim (cases_eq k place) [
      | inl same ↦
          let now : slice_index_or (set players place p') k e ≡ p' = ap (λ i. slice_index_or (set players place p') i e) same ∙ get_or-set_same players place p' e within in
          subst (IsReady h' k) (sym now) (record {
            numbered = played.moves.number ∙ (ready.each place d within).numbered ∙ sym same;
            seated = played.moves.seated;
            proper = played.proper (ready.each place d within).proper;
          })
      | inr other ↦
          let old = ready.each k e (omega (arith, l, length-set players place p')) in
          subst (IsReady h' k) (sym (get_or-set_other players place k p' e other)) (record {
            numbered = old.numbered;
            seated = record {
              is_pass = played.moves.others (slice_index_or players k e).pass old.seated.is_pass;
              fit = old.seated.fit;
            };
            proper = old.proper;
          })
    ]

    pub ready_after : AreReady h' (set players place p')
    ready_after = record {
      each = each_after;
      room = omega (arith, ready.room, played.moves.room, fewer_after);
    }

    -- **one command less is left to the player**
    pub counts_after : left_counts (set players place p')
        ≡ set (left_counts players) place (pred (slice_index_or (left_counts players) place 0))
    counts_after = map-set (λ (p : Player). length p.left.now) players place p'
        ∙ ap (λ n. set (left_counts players) place n)
        (played.left ∙ ap pred (sym (get_or-map (λ (p : Player). length p.left.now) players place d 0 within)))

-- ---- one player, where there was memory
module _ (h : History) (players : List Player) (place : ℕ) (x : Player) (h' : History) (p' : Player)
    (within : place < length players) (ready : AreReady h players) (operations : Operations) where
  there : x ≡ slice_index_or players place x → HasPlayed operations h x h' p'
      → HasPlayed operations h (slice_index_or players place x) h' p'
  there e played = subst (λ (p : Player). HasPlayed operations h p h' p') e played

  pub one_advances : {E : Type 0} (result : Result (Unit {0}) E) → x ≡ slice_index_or players place x
      → OnOk result (HasPlayed operations h x h' p')
      → OnOk result (Advances operations (place ∷ []) h players h' (set players place p'))
  one_advances (Ok u) e played = advances_one h players place x h' p' within ready (there e played)
  one_advances (Err fault) e played = tt

  pub one_counts : {E : Type 0} (result : Result (Unit {0}) E) → x ≡ slice_index_or players place x
      → OnOk result (HasPlayed operations h x h' p')
      → OnOk result (left_counts (set players place p')
      ≡ set (left_counts players) place (pred (slice_index_or (left_counts players) place 0)))
  one_counts (Ok u) e played = counts_after h players place x h' p' within ready (there e played)
  one_counts (Err fault) e played = tt

  pub one_ready : {E : Type 0} (result : Result (Unit {0}) E) → x ≡ slice_index_or players place x
      → OnOk result (HasPlayed operations h x h' p')
      → OnOk result (AreReady h' (set players place p'))
  one_ready (Ok u) e played = ready_after h players place x h' p' within ready (there e played)
  one_ready (Err fault) e played = tt

-- ---- no player is there
module _ (h : History) (players : List Player) (place : ℕ) (past : length players ≤ place) where
  pub advances_past : (operations : Operations) → Advances operations (place ∷ []) h players h players
  advances_past operations = record {
    edition = refl;
    room = refl;
    fewer = omega arith;
    same_players = refl;
    runs = λ w s.
        let same : length w.sessions ≡ length players = sym (length-map w.sessions shown) ∙ ap length s.sessions ∙ length-map players shown_player in
        (w, (w, nothing (ap (λ (x : SessionState). x.left) (get_or_past w.sessions place (new_session 0 []) (omega (arith, same, past)))), refl), s);
  }

  pub counts_past : left_counts players
      ≡ set (left_counts players) place (pred (slice_index_or (left_counts players) place 0))
  counts_past = sym (set_past (left_counts players) place (pred (slice_index_or (left_counts players) place 0))
      (omega (arith, length-map players (λ (p : Player). length p.left.now), past)))

-- ---- the rest, player by player
-- the numbers of the first counts, and then of the others
pub rest_append : (n : ℕ) (xs ys : List ℕ)
    → rest_from n (xs ++ ys) ≡ rest_from n xs ++ rest_from (n + length xs) ys
rest_append n [] ys = ap (λ k. rest_from k ys) (omega arith)
rest_append n (x ∷ xs) ys =
    ap (λ r. replicate x n ++ r) (rest_append (suc n) xs ys ∙ ap (λ k. rest_from (suc n) xs ++ rest_from k ys) (omega arith))
    ∙ sym (append_assoc (replicate x n) (rest_from (suc n) xs) (rest_from (n + suc (length xs)) ys))

-- ---- turns of one player
-- one turn more
replicate_more : (n : ℕ) (place : ℕ) → replicate n place ++ place ∷ [] ≡ replicate (n + 1) place
replicate_more n place = replicate-append-replicate n 1 place

-- the counts after a turn more
counts_more : (counts : List ℕ) (place i : ℕ) → place < length counts
    → set (set counts place (slice_index_or counts place 0 - i)) place
    (pred (slice_index_or (set counts place (slice_index_or counts place 0 - i)) place 0))
    ≡ set counts place (slice_index_or counts place 0 - (i + 1))
counts_more counts place i within =
    set-set counts place (slice_index_or counts place 0 - i) (pred (slice_index_or (set counts place (slice_index_or counts place 0 - i)) place 0))
    ∙ ap (λ n. set counts place n)
    (ap pred (get_or-set_same counts place (slice_index_or counts place 0 - i) 0 within) ∙ omega arith)

module _ (players now players' : List Player) where
  pub turn_counts : (place i : ℕ) → place < length players
      → left_counts now ≡ set (left_counts players) place (slice_index_or (left_counts players) place 0 - i)
      → left_counts players' ≡ set (left_counts now) place (pred (slice_index_or (left_counts now) place 0))
      → left_counts players'
      ≡ set (left_counts players) place (slice_index_or (left_counts players) place 0 - (i + 1))
  turn_counts place i within a b =
      b ∙ ap (λ cs. set cs place (pred (slice_index_or cs place 0))) a
      ∙ counts_more (left_counts players) place i (omega (arith, within, length-map players (λ (p : Player). length p.left.now)))

  pub rest_others : (place : ℕ) → drop place (left_counts now) ≡ drop place (left_counts players)
      → left_counts players' ≡ set (left_counts now) place 0
      → drop (place + 1) (left_counts players') ≡ drop (place + 1) (left_counts players)
  rest_others place same done =
      ap (drop (place + 1)) done ∙ drop-set-lt (place + 1) (left_counts now) place 0 (omega arith)
      ∙ sym (drop-drop 1 place (left_counts now)) ∙ ap (drop 1) same ∙ drop-drop 1 place (left_counts players)

module _ (operations : Operations) (h g h' : History) (players now players' : List Player) where
  -- **a turn more of one player**
  pub turn_advances : (place i : ℕ) → Advances operations (replicate i place) h players g now
      → Advances operations (place ∷ []) g now h' players'
      → Advances operations (replicate (i + 1) place) h players h' players'
  turn_advances place i a b =
      subst (λ es. Advances operations es h players h' players') (replicate_more i place)
      (advances_more operations h g h' players now players' (replicate i place) (place ∷ []) a b)

  -- **one player more has nothing left**
  pub rest_advances : (place : ℕ) → place < length players
      → drop place (left_counts now) ≡ drop place (left_counts players)
      → Advances operations (rest_from 0 (take place (left_counts players))) h players g now
      → Advances operations (replicate (slice_index_or (left_counts now) place 0) place) g now h' players'
      → Advances operations (rest_from 0 (take (place + 1) (left_counts players))) h players h' players'
  rest_advances place within same a b =
      let counts : List ℕ = left_counts players in
      let inside : place < length counts = omega (arith, within, length-map players (λ (p : Player). length p.left.now)) in
      let x : slice_index_or (left_counts now) place 0 ≡ slice_index_or counts place 0 =
      ap (λ k. slice_index_or (left_counts now) k 0) (sym (add-zero place)) ∙ sym (get_or-drop place (left_counts now) 0 0)
      ∙ ap (λ cs. slice_index_or cs 0 0) same ∙ get_or-drop place counts 0 0 ∙ ap (λ k. slice_index_or counts k 0) (add-zero place) in
      let start : 0 + length (take place counts) ≡ place = omega (arith, inside, length-take place counts) in
      let more : rest_from 0 (take (place + 1) counts) ≡ rest_from 0 (take place counts) ++ replicate (slice_index_or counts place 0) place =
      ap (λ n. rest_from 0 (take n counts)) (add-one place) ∙ ap (rest_from 0) (take-suc counts place 0 inside)
      ∙ rest_append 0 (take place counts) (slice_index_or counts place 0 ∷ [])
      ∙ ap (λ n. rest_from 0 (take place counts) ++ rest_from n (slice_index_or counts place 0 ∷ [])) start
      ∙ ap (λ r. rest_from 0 (take place counts) ++ r) (append-nil (replicate (slice_index_or counts place 0) place)) in
      subst (λ es. Advances operations es h players h' players') (sym more)
      (advances_more operations h g h' players now players' (rest_from 0 (take place counts)) (replicate (slice_index_or counts place 0) place) a
      (subst (λ n. Advances operations (replicate n place) g now h' players') x b))

  -- **one place more of a schedule**
  pub schedule_advances : (schedule : List ℕ) (i place : ℕ) → i < length schedule
      → place ≡ slice_index_or schedule i 0 + 1
      → Advances operations (map (λ k. k + 1) (take i schedule)) h players g now
      → Advances operations (place ∷ []) g now h' players'
      → Advances operations (map (λ k. k + 1) (take (i + 1) schedule)) h players h' players'
  schedule_advances schedule i place within is a b =
      let more : map (λ k. k + 1) (take (i + 1) schedule) ≡ map (λ k. k + 1) (take i schedule) ++ place ∷ [] =
      ap (λ n. map (λ k. k + 1) (take n schedule)) (add-one i) ∙ ap (map (λ k. k + 1)) (take-suc schedule i 0 within)
      ∙ map-append (λ k. k + 1) (take i schedule) (slice_index_or schedule i 0 ∷ [])
      ∙ ap (λ n. map (λ k. k + 1) (take i schedule) ++ n ∷ []) (sym is) in
      subst (λ es. Advances operations es h players h' players') (sym more)
      (advances_more operations h g h' players now players' (map (λ k. k + 1) (take i schedule)) (place ∷ []) a b)

-- there is a player wherever there was one
pub still_within : (players now : List Player) (place : ℕ)
    → drop place (left_counts now) ≡ drop place (left_counts players) → place < length players
    → place < length now
still_within players now place same within = omega (
  arith,
  within,
  ap length same,
  length-drop place (left_counts now),
  length-drop place (left_counts players),
  length-map now (λ (p : Player). length p.left.now),
  length-map players (λ (p : Player). length p.left.now),
)
