-- Players before their first command.
use Rattle.std.proofs.Common.{◌≡◌, ℕ, suc, ◌+◌, ◌<◌, ◌≤◌, List, [], ◌∷◌, ◌++◌, length, map, take, drop, sym, ap, ◌∙◌, subst, arith, inl, inr, append_assoc, take-suc, drop-cons, add-one, length-append}
use Rattle.std.specs.Prelude.{All, slice_index_or}
use Rattle.std.specs.FinMap.{empty, get-empty, len-empty}
use Rattle.std.proofs.lemmas.Bool.{cases_eq}
use Rattle.std.proofs.lemmas.List.{map-append, get_or_append_left, get_or_push}
use Rattle.std.proofs.lemmas.List.Sums.{sum_by_push, sum_by-cons}
use Rattle.alg_model.specs.Lattices.{Lattice}
use Rattle.lat_core.specs.declared.tagged.Tagged.{Tagged}
use Rattle.lat_language.specs.declared.scripts.SessionScript.{SessionScript}
use Rattle.lat_language.specs.Grammar.{session_commands}
use Rattle.lat_session.specs.Variables.{name_cmp, Holds, AreVariables}
use Rattle.lat_session.specs.Commands.{IsProperCommand}
use Rattle.lat_history.specs.Books.{History}
use Rattle.lat_history.specs.Passes.{IsPassOf}
use Rattle.lat_playing.specs.declared.players.Player.{Player}
use Rattle.lat_playing.specs.Worlds.{new_session}
use Rattle.lat_playing.specs.PrivatePlays.{Shown, shown, shown_player, opened, IsReady, left_count, AreReady}

-- ---- no variables
no_variable : {name : List ℕ} {t : Tagged} → Holds empty name t → ⊥
no_variable {name} {t} holds = let none = get-empty {X = Tagged} name_cmp name in let found = holds.found in cc

-- they fit every lattice
empty_fits : (L : Lattice) → AreVariables L empty
empty_fits L = record {
  values = λ holds. absurd (no_variable holds);
  room = omega (arith, len-empty name_cmp Tagged);
}

-- **a player that has seen all, and has proper commands**
pub opened_ready : (h : History) (number : ℕ) (p : Player) → p.pass.number ≡ number
    → IsPassOf h p.pass → p.session ≡ empty → All IsProperCommand p.left.now → IsReady h number p
opened_ready h number p numbered is_pass none proper = record {
  numbered = numbered;
  seated = record {
    is_pass = is_pass;
    fit = subst (AreVariables p.pass.view) (sym none) (empty_fits p.pass.view);
  };
  proper = proper;
}

-- ---- one player more
module _ (h : History) (players : List Player) (p : Player) where
  each_more : ((k : ℕ) (d : Player) → k < length players → IsReady h k (slice_index_or players k d))
      → IsReady h (length players) p
      → (k : ℕ) (d : Player) → k < length (players ++ p ∷ [])
      → IsReady h k (slice_index_or (players ++ p ∷ []) k d)
  each_more each ready k d l = elim (cases_eq k (length players)) [
    | inl last ↦
        subst (IsReady h k) (sym (get_or_push players p d k (sym last)))
        (subst (λ n. IsReady h n p) (sym last) ready)
    | inr other ↦
        let before : k < length players = omega (arith, l, other, length-append players (p ∷ [])) in
        subst (IsReady h k) (sym (get_or_append_left players (p ∷ []) d k before)) (each k d before)
  ]

  -- **all can play, where there is room**
  pub more_ready : AreReady h players → IsReady h (length players) p
      → length h.entries + left_count players + length p.left.now ≤ h.room
      → AreReady h (players ++ p ∷ [])
  more_ready all ready room = record {
    each = each_more all.each ready;
    room = omega (arith, room, sum_by_push (λ (q : Player). length q.left.now) players p);
  }

  pub more_count : left_count (players ++ p ∷ []) ≡ left_count players + length p.left.now
  more_count = sum_by_push (λ (q : Player). length q.left.now) players p

-- ---- one session more of a script
-- its player is shown behind the others
pub more_shown : (entries : ℕ) (old players new : List Player) (p : Player)
    (sessions : List SessionScript) (i : ℕ) (s : SessionScript) → i < length sessions
    → s ≡ slice_index_or sessions i s → new ≡ players ++ p ∷ []
    → shown_player p ≡ shown (new_session entries s.commands)
    → map shown_player players ≡ map shown_player old ++ map (opened entries) (take i sessions)
    → map shown_player new ≡ map shown_player old ++ map (opened entries) (take (i + 1) sessions)
more_shown entries old players new p sessions i s within is pushed player before =
    let taken : take (i + 1) sessions ≡ take i sessions ++ s ∷ [] =
    ap (λ n. take n sessions) (add-one i) ∙ take-suc sessions i s within ∙ ap (λ x. take i sessions ++ x ∷ []) (sym is) in
    ap (map shown_player) pushed ∙ map-append shown_player players (p ∷ [])
    ∙ ap (λ xs. xs ++ shown_player p ∷ []) before
    ∙ append_assoc (map shown_player old) (map (opened entries) (take i sessions)) (shown_player p ∷ [])
    ∙ ap (λ x. map shown_player old ++ (map (opened entries) (take i sessions) ++ x ∷ [])) player
    ∙ ap (λ xs. map shown_player old ++ xs) (sym (map-append (opened entries) (take i sessions) (s ∷ [])))
    ∙ ap (λ ss. map shown_player old ++ map (opened entries) ss) (sym taken)

-- its commands are among those that are to come
pub more_room : (sessions : List SessionScript) (i : ℕ) (s : SessionScript) → i < length sessions
    → s ≡ slice_index_or sessions i s
    → session_commands (drop i sessions) ≡ length s.commands + session_commands (drop (i + 1) sessions)
more_room sessions i s within is =
    ap session_commands (drop-cons sessions i s within)
    ∙ sum_by-cons (λ (x : SessionScript). length x.commands) (slice_index_or sessions i s) (drop (suc i) sessions)
    ∙ ap (λ (x : SessionScript). length x.commands + session_commands (drop (suc i) sessions)) (sym is)
    ∙ ap (λ n. length s.commands + session_commands (drop n sessions)) (sym (add-one i))

module _ (h : History) (players new : List Player) (p : Player) (sessions : List SessionScript)
    (i : ℕ) (s : SessionScript) (within : i < length sessions) (is : s ≡ slice_index_or sessions i s)
    (pushed : new ≡ players ++ p ∷ [])
    (player : shown_player p ≡ shown (new_session (length h.entries) s.commands))
    (room : length h.entries + left_count players + session_commands (drop i sessions) ≤ h.room) where
  commands_left : length p.left.now ≡ length s.commands
  commands_left = ap (λ (x : Shown). length x.left) player

  -- **the players of one session more can play**
  pub opened_ready_more : AreReady h players → IsReady h (length players) p → AreReady h new
  opened_ready_more all ready =
      subst (AreReady h) (sym pushed)
      (more_ready h players p all ready (omega (arith, room, commands_left, more_room sessions i s within is)))

  pub opened_room_more : length h.entries + left_count new + session_commands (drop (i + 1) sessions)
      ≤ h.room
  opened_room_more =
      let count : left_count new ≡ left_count players + length p.left.now = ap left_count pushed ∙ more_count h players p in
      omega (arith, room, count, commands_left, more_room sessions i s within is)
