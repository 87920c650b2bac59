-- From the parts of a play to the world of a script, and to its lines.
use Rattle.std.proofs.Common.{◌≡◌, ℕ, zero, suc, ◌+◌, ◌<◌, List, [], ◌∷◌, ◌++◌, length, map, take, drop, refl, sym, ap, ap₂, ◌∙◌, subst, arith, append_assoc, append-nil, add-one, length-append}
use Rattle.std.specs.Prelude.{slice_index_or}
use Rattle.std.proofs.lemmas.List.{map-append, length-map}
use Rattle.std.proofs.lemmas.List.Sums.{sum_by-cons}
use Rattle.alg_model.specs.Lattices as lattices
use Rattle.lat_core.specs.declared.replies.Entry.{Entry}
use Rattle.lat_language.specs.declared.commands.Command.{Command}
use Rattle.lat_language.specs.declared.scripts.Script.{Script}
use Rattle.lat_language.specs.declared.scripts.SessionScript.{SessionScript}
use Rattle.lat_language.specs.Grammar.{session_commands}
use Rattle.lat_language.specs.Texts.{session_text}
use Rattle.lat_session.specs.Outcomes.{Operations}
use Rattle.lat_history.specs.Books.{History}
use Rattle.lat_playing.specs.declared.players.Player.{Player}
use Rattle.lat_playing.specs.declared.plays.Performance.{Performance}
use Rattle.lat_playing.specs.Worlds.{SessionState, World, new_session, session_at, only_prologue, open_sessions, rest_from, rest, Runs, IsSolo}
use Rattle.lat_playing.specs.Transcripts.{lines_text, blocks_text, sessions_text}
use Rattle.lat_playing.specs.Plays.{Performs, PerformsPrologue}
use Rattle.lat_playing.specs.PrivatePlays.{Shown, shown, shown_player, opened, Shows, left_counts, left_count, Advances, HasPrologue, HasSolo}
use Rattle.lat_playing.specs.PrivateTranscripts.{player_blocks}

-- ---- the prologue
module _ (operations : Operations) (h h' : History) (commands : List Command)
    (first players : List Player) (p : Player) (none : h.entries ≡ []) (is : first ≡ p ∷ [])
    (player : shown_player p ≡ shown (new_session (length h.entries) commands))
    (played : Advances operations (rest_from 0 (left_counts first)) h first h' players) where
  at_first : shown_player p ≡ shown (new_session 0 commands)
  at_first = player ∙ ap (λ (es : List Entry). shown (new_session (length es) commands)) none

  shows_first : Shows (only_prologue commands) h first
  shows_first = record {
    history = sym none;
    sessions = sym (ap (map shown_player) is ∙ ap (λ (x : Shown). x ∷ []) at_first);
  }

  counts_first : left_counts first ≡ length commands ∷ []
  counts_first = ap left_counts is ∙ ap (λ (x : Shown). length x.left ∷ []) at_first

  count_first : left_count first ≡ length commands
  count_first =
      let e : left_count first ≡ left_count (p ∷ []) = ap left_count is in
      let l : length p.left.now ≡ length commands = ap (λ (x : Shown). length x.left) at_first in
      omega (arith, e, l, sum_by-cons (λ (q : Player). length q.left.now) p [])

  -- **the prologue is played**
  pub prologue_played : HasPrologue operations h commands h' players
  prologue_played =
      let (w, runs, shows) = played.runs (only_prologue commands) shows_first in
      record {
        edition = played.edition;
        room = played.room;
        fewer = omega (arith, played.fewer, count_first, ap length none);
        one = played.same_players ∙ ap length is;
        prologue = w;
        played = subst (λ counts. Runs h.edition operations (rest_from 0 counts) (only_prologue commands) w) counts_first runs;
        shows = shows;
      }

-- ---- the sessions
module _ (operations : Operations) (h h₁ h₂ h₃ : History) (script : Script)
    (players₁ opened_all players₂ players₃ : List Player)
    (before : HasPrologue operations h script.prologue h₁ players₁)
    (is : map shown_player opened_all
    ≡ map shown_player players₁ ++ map (opened (length h₁.entries)) script.sessions)
    (by_schedule : Advances operations (map (λ place. place + 1) script.schedule) h₁ opened_all h₂ players₂)
    (by_rest : Advances operations (rest_from 0 (left_counts players₂)) h₂ players₂ h₃ players₃) where
  opened_as : (sessions : List SessionScript) (n : ℕ)
      → map shown (map (λ (s : SessionScript). new_session n s.commands) sessions)
      ≡ map (opened n) sessions
  opened_as [] n = refl
  opened_as (s ∷ sessions) n = ap (λ xs. opened n s ∷ xs) (opened_as sessions n)

  shows_opened : Shows (open_sessions script before.prologue) h₁ opened_all
  shows_opened = record {
    history = before.shows.history;
    sessions = map-append shown before.prologue.sessions (map (λ (s : SessionScript). new_session (length before.prologue.history) s.commands) script.sessions)
        ∙ ap₂ (λ xs ys. xs ++ ys) before.shows.sessions
        (opened_as script.sessions (length before.prologue.history) ∙ ap (λ (es : List Entry). map (opened (length es)) script.sessions) before.shows.history)
        ∙ sym is;
  }

  counts_as : (w : World) (g : History) (players : List Player) → Shows w g players
      → left_counts players ≡ map (λ (s : SessionState). length s.left) w.sessions
  counts_as w g players s =
      same_counts w.sessions players s.sessions where
        same_counts : (sessions : List SessionState) (players : List Player)
            → map shown sessions ≡ map shown_player players
            → left_counts players ≡ map (λ (s : SessionState). length s.left) sessions
        same_counts [] [] e = refl
        same_counts [] (p ∷ players) e = cc
        same_counts (s ∷ sessions) [] e = cc
        same_counts (s ∷ sessions) (p ∷ players) e =
            let here : shown s ≡ shown_player p = cc in
            let more : map shown sessions ≡ map shown_player players = cc in
            ap₂ (λ n ns. n ∷ ns) (sym (ap (λ (x : Shown). length x.left) here)) (same_counts sessions players more)

  -- **the script is played**
  pub script_played : HasSolo operations h script h₃ players₃
  script_played =
      let (scheduled, runs, shows) = by_schedule.runs (open_sessions script before.prologue) shows_opened in
      let (w, last, shows_last) = by_rest.runs scheduled shows in
      let second : h₂.edition ≡ h.edition = by_schedule.edition ∙ before.edition in
      record {
        edition = by_rest.edition ∙ second;
        room = by_rest.room ∙ by_schedule.room ∙ before.room;
        world = w;
        solo = record {
          scheduled = scheduled;
          is_world = record {
            prologue = before.prologue;
            played = before.played;
            runs = subst (λ e. Runs e operations (map (λ place. place + 1) script.schedule) (open_sessions script before.prologue) scheduled) before.edition runs;
          };
          runs = subst (λ e. Runs e operations (rest scheduled) scheduled w) second
              (subst (λ counts. Runs h₂.edition operations (rest_from 0 counts) scheduled w) (counts_as scheduled h₂ players₂ shows) last);
        };
        shows = shows_last;
        all_players = omega (
          arith,
          by_rest.same_players,
          by_schedule.same_players,
          before.one,
          ap length is,
          length-map opened_all shown_player,
          length-append (map shown_player players₁) (map (opened (length h₁.entries)) script.sessions),
          length-map players₁ shown_player,
          length-map script.sessions (opened (length h₁.entries)),
        );
      }

-- ---- lines
-- the blocks of one session more
blocks_suc : (i : ℕ) (sessions : List SessionScript) (players : List Player) (s : SessionScript)
    (p : Player) → i < length sessions → i < length players
    → player_blocks (take (suc i) sessions) players
    ≡ player_blocks (take i sessions) players
    ++ (session_text (slice_index_or sessions i s).name ++ (slice_index_or players i p).text.items)
blocks_suc i [] players s p l k = absurd (omega (arith, l))
blocks_suc i (x ∷ sessions) [] s p l k = absurd (omega (arith, k))
blocks_suc zero (x ∷ sessions) (q ∷ players) s p l k =
    append-nil (session_text x.name ++ q.text.items)
blocks_suc (suc i) (x ∷ sessions) (q ∷ players) s p l k =
    ap (λ t. session_text x.name ++ q.text.items ++ t) (blocks_suc i sessions players s p (omega (arith, l)) (omega (arith, k)))
    ∙ sym (append_assoc (session_text x.name ++ q.text.items) (player_blocks (take i sessions) players) (session_text (slice_index_or sessions i s).name ++ (slice_index_or players i p).text.items))

-- **one block more is added**
pub blocks_more : (sessions : List SessionScript) (players : List Player) (i : ℕ)
    (s : SessionScript) (p : Player) (old text named new : List ℕ) → i < length sessions
    → length players ≡ length sessions + 1 → s ≡ slice_index_or sessions i s
    → p ≡ slice_index_or players (i + 1) p
    → text ≡ old ++ player_blocks (take i sessions) (drop 1 players)
    → named ≡ text ++ session_text s.name → new ≡ named ++ p.text.items
    → new ≡ old ++ player_blocks (take (i + 1) sessions) (drop 1 players)
blocks_more sessions [] i s p old text named new l few is at so_far name lines = absurd (omega (arith, few))
blocks_more sessions (q ∷ players) i s p old text named new l few is at so_far name lines =
    let at_next : p ≡ slice_index_or players i p = at ∙ ap (λ n. slice_index_or (q ∷ players) n p) (add-one i) in
    lines ∙ ap (λ t. t ++ p.text.items) (name ∙ ap (λ t. t ++ session_text s.name) so_far)
    ∙ append_assoc (old ++ player_blocks (take i sessions) players) (session_text s.name) p.text.items
    ∙ append_assoc old (player_blocks (take i sessions) players) (session_text s.name ++ p.text.items)
    ∙ ap₂ (λ (x : SessionScript) (y : Player). old ++ (player_blocks (take i sessions) players ++ (session_text x.name ++ y.text.items))) is at_next
    ∙ ap (λ t. old ++ t) (sym (blocks_suc i sessions players s p l (omega (arith, l, few))))
    ∙ ap (λ n. old ++ player_blocks (take n sessions) players) (sym (add-one i))

-- the blocks of players are those of the sessions that they stand for
blocks_shown : (scripts : List SessionScript) (sessions : List SessionState) (players : List Player)
    → map shown sessions ≡ map shown_player players
    → player_blocks scripts players ≡ blocks_text scripts sessions
blocks_shown [] sessions players e = refl
blocks_shown (x ∷ scripts) [] [] e = refl
blocks_shown (x ∷ scripts) [] (p ∷ players) e = cc
blocks_shown (x ∷ scripts) (s ∷ sessions) [] e = cc
blocks_shown (x ∷ scripts) (s ∷ sessions) (p ∷ players) e =
    let here : shown s ≡ shown_player p = cc in
    let more : map shown sessions ≡ map shown_player players = cc in
    ap₂ (λ t r. session_text x.name ++ t ++ r) (sym (ap (λ (y : Shown). y.text) here)) (blocks_shown scripts sessions players more)

-- **the lines of the players are those of the world**
pub sessions_shown : (script : Script) (w : World) (h : History) (players : List Player) (p : Player)
    → Shows w h players → 0 < length players
    → (slice_index_or players 0 p).text.items ++ player_blocks script.sessions (drop 1 players)
    ≡ sessions_text script w
sessions_shown script w h players p s some = first_and_others w.sessions players s.sessions some where
  first_and_others : (sessions : List SessionState) (players : List Player)
      → map shown sessions ≡ map shown_player players → 0 < length players
      → (slice_index_or players 0 p).text.items ++ player_blocks script.sessions (drop 1 players)
      ≡ lines_text (session_at sessions 0).lines ++ blocks_text script.sessions (drop 1 sessions)
  first_and_others sessions [] e some = absurd (omega (arith, some))
  first_and_others [] (q ∷ players) e some = cc
  first_and_others (x ∷ sessions) (q ∷ players) e some =
      let here : shown x ≡ shown_player q = cc in
      let more : map shown sessions ≡ map shown_player players = cc in
      ap₂ (λ t r. t ++ r) (sym (ap (λ (y : Shown). y.text) here)) (blocks_shown script.sessions sessions players more)

-- **what was played**
pub performs : (operations : Operations) (edition : lattices.Edition) (h : History) (script : Script)
    (players : List Player) (performance : Performance) → h.edition ≡ edition
    → h.room ≡ length script.prologue + session_commands script.sessions
    → HasSolo operations h script performance.book players
    → ((p : Player) → performance.lines.items
    ≡ (slice_index_or players 0 p).text.items ++ player_blocks script.sessions (drop 1 players))
    → Performs edition operations script performance
performs operations edition h script [] performance of_edition has_room solo lines = absurd (omega (arith, solo.all_players))
performs operations edition h script (q ∷ players) performance of_edition has_room solo lines = record {
  world = solo.world;
  solo = subst (λ e. IsSolo e operations script solo.world) of_edition solo.solo;
  of_edition = solo.edition ∙ of_edition;
  room = solo.room ∙ has_room;
  history = sym solo.shows.history;
  lines = lines q ∙ sessions_shown script solo.world performance.book (q ∷ players) q solo.shows (omega arith);
}

-- the text of the first player is that of the first session
first_text : (sessions : List SessionState) (players : List Player) (p : Player)
    → map shown sessions ≡ map shown_player players → 0 < length players
    → (slice_index_or players 0 p).text.items ≡ lines_text (session_at sessions 0).lines
first_text sessions [] p e some = absurd (omega (arith, some))
first_text [] (q ∷ players) p e some = cc
first_text (x ∷ sessions) (q ∷ players) p e some =
    let here : shown x ≡ shown_player q = cc in
    sym (ap (λ (y : Shown). y.text) here)

-- **what was played of a prologue**
pub performs_prologue : (operations : Operations) (edition : lattices.Edition) (h : History)
    (script : Script) (players : List Player) (performance : Performance) → h.edition ≡ edition
    → h.room ≡ length script.prologue + session_commands script.sessions
    → HasPrologue operations h script.prologue performance.book players
    → ((p : Player) → performance.lines.items
    ≡ (slice_index_or players 0 p).text.items ++ player_blocks [] (drop 1 players))
    → PerformsPrologue edition operations script performance
performs_prologue operations edition h script [] performance of_edition has_room before lines = absurd (omega (arith, before.one))
performs_prologue operations edition h script (q ∷ players) performance of_edition has_room before lines = record {
  prologue = before.prologue;
  played = subst (λ e. Runs e operations (rest (only_prologue script.prologue)) (only_prologue script.prologue) before.prologue) of_edition before.played;
  of_edition = before.edition ∙ of_edition;
  room = before.room ∙ has_room;
  history = sym before.shows.history;
  lines = lines q ∙ append-nil q.text.items
      ∙ first_text before.prologue.sessions (q ∷ players) q before.shows.sessions (omega arith);
}
