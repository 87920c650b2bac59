-- Sessions whose lines answer their commands over one history are those of a world.
use Rattle.std.proofs.Common.{◌≡◌, ℕ, suc, ◌+◌, ◌<◌, ◌≤◌, List, [], ◌∷◌, ◌++◌, length, map, set, take, replicate, refl, sym, ap, ◌∙◌, subst, arith, inl, inr, length-append, append_assoc, get_or-set_same, get_or-set_other, Some, None}
use Rattle.std.specs.Prelude.{if◌then◌else◌, All, slice_get, slice_index_or}
use Rattle.std.proofs.lemmas.List.Elements.{All-head, All-tail}
use Rattle.std.specs.List.{cons_option}
use Rattle.std.specs.Option.{option_map}
use Rattle.std.proofs.lemmas.List.{length-set, take-append-le}
use Rattle.std.proofs.lemmas.Bool.{cases_eq, eq-eqb, ne_eqb}
use Rattle.std.proofs.lemmas.Option.{same_Some}
use Rattle.alg_model.specs.Lattices as lattices
use Rattle.alg_model.specs.Lattices.{Lattice}
use Rattle.lat_core.specs.declared.requests.Request.{Request}
use Rattle.lat_core.specs.declared.replies.Reply.{Reply}
use Rattle.lat_core.specs.declared.replies.Entry.{Entry}
use Rattle.lat_core.specs.declared.outcomes.Outcome.{Outcome}
use Rattle.lat_core.specs.declared.outcomes.Outcome.TheVariants.{Changed}
use Rattle.lat_core.specs.declared.outcomes.Line.{Line}
use Rattle.lat_core.specs.Step.{Steps}
use Rattle.lat_core.specs.Histories.{IsAfter, IsLegal}
use Rattle.lat_core.proofs.HistoryLaws.{leads_split}
use Rattle.lat_language.specs.declared.commands.Command.{Command}
use Rattle.lat_session.specs.Variables.{Variables}
use Rattle.lat_session.specs.Commands.{request_of}
use Rattle.lat_session.specs.Outcomes.{Operations, HasOutcome}
use Rattle.lat_playing.specs.Worlds.{SessionState, World, new_session, session_at, rest_from, HasLine, Happens, Runs}
use Rattle.lat_playing.specs.Worlds.HasLine.{change as enters, read as asks}
use Rattle.lat_playing.specs.Worlds.Happens.{plays}
use Rattle.lat_playing.specs.Answered.{IsAnswered, AreAnswered}
use Rattle.lat_playing.specs.Answered.IsAnswered.{change, read}
use Rattle.lat_playing.specs.Turns.{IsTurn, AreTurns}
use Rattle.lat_playing.specs.Theorems.{reply_of, changes_of, own_entries_from}
use Rattle.lat_playing.specs.PrivateWorlds.{lines_at}
use Rattle.lat_playing.proofs.WorldEvents.{not_both, first_same, rest_same, runs_both}
use Rattle.lat_playing.proofs.HeldChanges.{outcome_no_change}

-- ---- entries and changes
pub own_here : (n k : ℕ) (e : Entry) (es : List Entry) → e.session ≡ n
    → own_entries_from n k (e ∷ es) ≡ (k, e.reply) ∷ own_entries_from n (suc k) es
own_here n k e es same = ap (λ b. if b then (k, e.reply) ∷ own_entries_from n (suc k) es else own_entries_from n (suc k) es) (eq-eqb e.session n same)

pub own_there : (n k : ℕ) (e : Entry) (es : List Entry) → (e.session ≡ n → ⊥)
    → own_entries_from n k (e ∷ es) ≡ own_entries_from n (suc k) es
own_there n k e es other = ap (λ b. if b then (k, e.reply) ∷ own_entries_from n (suc k) es else own_entries_from n (suc k) es) (ne_eqb e.session n other)

change_line : (l : Line) (reply : Reply) (ls : List Line) → l.outcome ≡ Changed reply
    → changes_of (l ∷ ls) ≡ (l.mark, reply) ∷ changes_of ls
change_line l reply ls e = subst (λ o. changes_of (record { outcome = o; mark = l.mark } ∷ ls) ≡ (l.mark, reply) ∷ changes_of ls) (sym e) refl

read_line : (l : Line) (ls : List Line) → reply_of l.outcome ≡ None
    → changes_of (l ∷ ls) ≡ changes_of ls
read_line l ls e = ap (λ o. cons_option (option_map (λ reply. (l.mark, reply)) o) (changes_of ls)) e

get_next : (xs ys : List Entry) (x : Entry) → slice_get (xs ++ x ∷ ys) (length xs) ≡ Some x
get_next [] ys x = refl
get_next (y ∷ xs) ys x = get_next xs ys x

-- each entry of a legal history is answered by the step at its place
step_at : (edition : lattices.Edition) (xs ys : List Entry) (x : Entry)
    → IsLegal edition (xs ++ x ∷ ys)
    → (L : Lattice) × (M : Lattice) × IsAfter edition xs L × Steps L x.request x.reply M
step_at edition xs ys x (N, a) =
    let (L, first, others) = leads_split xs (x ∷ ys) a.opening N a.leads in
    let (M, proper, step, more) = others in
    (L, M, record { opening = a.opening; of_edition = a.of_edition; is_opening = a.is_opening; leads = first }, step)

module _ (edition : lattices.Edition) (operations : Operations) (history : List Entry)
    (legal : IsLegal edition history) (lines : ℕ → List Line) where
  -- what is to come of a session, where these entries are played, and these are left
  pub record Coming (played later : List Entry) (n : ℕ) (s : SessionState) : Type 0 where
    pub to_come : List Line
    pub joined : s.lines ++ to_come ≡ lines n
    pub within : s.front ≤ length played
    pub answers : AreAnswered edition operations n history s.variables s.front s.left to_come
    pub changes : changes_of to_come ≡ own_entries_from n (length played) later

  -- and of all
  pub record AreComing (w : World) (later : List Entry) : Type 0 where
    pub whole : history ≡ w.history ++ later
    pub each : (n : ℕ) → n < length w.sessions
        → Coming w.history later n (session_at w.sessions n)

  -- one event of session n, whose line comes next
  record Goes (n : ℕ) (w v : World) (later : List Entry) : Type 0 where
    pub happens : Happens edition operations n w v
    pub coming : AreComing v later
    pub same : length v.sessions ≡ length w.sessions
    pub others : (k : ℕ) → (k ≡ n → ⊥) → session_at v.sessions k ≡ session_at w.sessions k

  one_event : (n : ℕ) (w : World) (before later : List Entry) (c : Command) (cs : List Command)
      (l : Line) (ls : List Line) (h : List Entry) (t : SessionState) → AreComing w before
      → n < length w.sessions → (session_at w.sessions n).left ≡ c ∷ t.left
      → t.lines ≡ lines_at w n ++ l ∷ [] → t.lines ++ ls ≡ lines n
      → HasLine edition operations n w.history (session_at w.sessions n).variables
      (session_at w.sessions n).front c h t.variables t.front l
      → history ≡ h ++ later → length w.history ≤ length h → t.front ≤ length h
      → AreAnswered edition operations n history t.variables t.front t.left ls
      → changes_of ls ≡ own_entries_from n (length h) later
      → ((k : ℕ) → (k ≡ n → ⊥)
      → own_entries_from k (length w.history) before ≡ own_entries_from k (length h) later)
      → Goes n w (record { history = h; sessions = set w.sessions n t }) later
  one_event n w before later c cs l ls h t C inside next line joined has whole longer seen answers changes apart =
      record {
        happens = plays inside (record { command = c; line = l; next = next; has_line = has; lines = line });
        coming = record {
          whole = whole;
          each = λ k i. elim (cases_eq k n) [
            | inl same ↦
                let there : session_at (set w.sessions n t) k ≡ t = ap (λ j. session_at (set w.sessions n t) j) same ∙ get_or-set_same w.sessions n t (new_session 0 []) inside in
                let own : Coming h later n t = record { to_come = ls; joined = joined; within = seen; answers = answers; changes = changes } in
                subst (λ s. Coming h later k s) (sym there) (subst (λ j. Coming h later j t) (sym same) own)
            | inr other ↦
                let old = C.each k (omega (arith, i, length-set w.sessions n t)) in
                subst (λ s. Coming h later k s) (sym (get_or-set_other w.sessions n k t (new_session 0 []) other))
                (record {
                  to_come = old.to_come;
                  joined = old.joined;
                  within = omega (arith, old.within, longer);
                  answers = old.answers;
                  changes = old.changes ∙ apart k other;
                })
          ];
        };
        same = length-set w.sessions n t;
        others = λ k other. get_or-set_other w.sessions n k t (new_session 0 []) other;
      }

  -- what comes of events: a world in which these entries are left
  pub record GoesOn (w : World) (later : List Entry) : Type 0 where
    pub events : List ℕ
    pub world : World
    pub runs : Runs edition operations events w world
    pub coming : AreComing world later
    pub same : length world.sessions ≡ length w.sessions

  same_line : (l : Line) (outcome : Outcome) (mark : ℕ) → l.outcome ≡ outcome → l.mark ≡ mark
      → l ≡ record { outcome = outcome; mark = mark }
  same_line l outcome mark e d = λ i. record { outcome = e i; mark = d i }

  after_line : (n : ℕ) (w : World) (v : Variables) (f : ℕ) (cs : List Command) (l : Line)
      → SessionState
  after_line n w v f cs l =
      record { variables = v; front = f; left = cs; lines = lines_at w n ++ l ∷ [] }

  -- ---- a read
  read_event : (n : ℕ) (w : World) (later : List Entry) (c : Command) (cs : List Command)
      (l : Line) (ls : List Line) (L : Lattice) (after : Variables) → AreComing w later
      → (inside : n < length w.sessions) → (session_at w.sessions n).left ≡ c ∷ cs
      → (session_at w.sessions n).front ≤ length w.history
      → lines_at w n ++ l ∷ ls ≡ lines n
      → request_of (session_at w.sessions n).variables c ≡ None
      → l.mark ≡ (session_at w.sessions n).front
      → IsAfter edition (take (session_at w.sessions n).front history) L
      → HasOutcome operations L (session_at w.sessions n).variables c l.outcome after
      → AreAnswered edition operations n history after (session_at w.sessions n).front cs ls
      → changes_of (l ∷ ls) ≡ own_entries_from n (length w.history) later
      → Goes n w (record { history = w.history; sessions = set w.sessions n (after_line n w after (session_at w.sessions n).front cs l) }) later
  unfolding after_line
  read_event n w later c cs l ls L after C inside next within joined none mark seen has answers changes =
      let s = session_at w.sessions n in
      let before : IsAfter edition (take s.front w.history) L = subst (λ es. IsAfter edition es L)
      (ap (take s.front) C.whole ∙ take-append-le s.front w.history later within) seen in
      let line : HasLine edition operations n w.history s.variables s.front c w.history after s.front l =
      subst (λ m. HasLine edition operations n w.history s.variables s.front c w.history after s.front m)
      (sym (same_line l l.outcome s.front refl mark)) (asks none before has) in
      one_event n w later later c cs l ls w.history (after_line n w after s.front cs l) C inside next refl
      (append_assoc s.lines (l ∷ []) ls ∙ joined) line C.whole (omega arith) within answers
      (sym (read_line l ls (outcome_no_change has)) ∙ changes) (λ k other. refl)

  -- ---- a change
  change_event : (n : ℕ) (w : World) (e : Entry) (later : List Entry) (c : Command)
      (cs : List Command) (l : Line) (ls : List Line) (request : Request) (reply : Reply)
      → AreComing w (e ∷ later) → e.session ≡ n
      → (inside : n < length w.sessions) → (session_at w.sessions n).left ≡ c ∷ cs
      → lines_at w n ++ l ∷ ls ≡ lines n
      → request_of (session_at w.sessions n).variables c ≡ Some request
      → l.outcome ≡ Changed reply
      → slice_get history l.mark ≡ Some (record { session = n; request = request; reply = reply })
      → AreAnswered edition operations n history (session_at w.sessions n).variables
      (l.mark + 1) cs ls
      → changes_of (l ∷ ls) ≡ own_entries_from n (length w.history) (e ∷ later)
      → (v : World) × (v.history ≡ w.history ++ record { session = n; request = request; reply = reply } ∷ [])
      × Goes n w v later
  unfolding after_line
  change_event n w e later c cs l ls request reply C own inside next joined requested changed at answers changes =
      let s = session_at w.sessions n in
      let k : ℕ = length w.history in
      let x : Entry = record { session = n; request = request; reply = reply } in
      let h : List Entry = w.history ++ x ∷ [] in
      let both = sym (change_line l reply ls changed) ∙ changes ∙ own_here n k e later own in
      let place : l.mark ≡ k = ap (λ p. p.0) (first_same (l.mark, reply) (k, e.reply) (changes_of ls) (own_entries_from n (suc k) later) both) in
      let more : changes_of ls ≡ own_entries_from n (suc k) later = rest_same (l.mark, reply) (k, e.reply) (changes_of ls) (own_entries_from n (suc k) later) both in
      let there : slice_get history k ≡ Some e = ap (λ es. slice_get es k) C.whole ∙ get_next w.history later e in
      let entry : e ≡ x = same_Some e x (sym there ∙ ap (slice_get history) (sym place) ∙ at) in
      let (L, M, after, step) = step_at edition w.history later e (subst (IsLegal edition) C.whole legal) in
      let steps : Steps L request reply M = subst (λ y. Steps L y.request y.reply M) entry step in
      let line : HasLine edition operations n w.history s.variables s.front c h s.variables (k + 1) l =
      subst (λ m. HasLine edition operations n w.history s.variables s.front c h s.variables (k + 1) m)
      (sym (same_line l (Changed reply) k changed place)) (enters M requested after steps) in
      let long : suc k ≡ length h = omega (arith, length-append w.history (x ∷ [])) in
      let whole : history ≡ h ++ later = C.whole ∙ ap (λ y. w.history ++ y ∷ later) entry ∙ sym (append_assoc w.history (x ∷ []) later) in (
        record { history = h; sessions = set w.sessions n (after_line n w s.variables (k + 1) cs l) },
        refl,
        one_event n w (e ∷ later) later c cs l ls h (after_line n w s.variables (k + 1) cs l) C inside next refl
            (append_assoc s.lines (l ∷ []) ls ∙ joined) line whole (omega (arith, long)) (omega (arith, long))
            (subst (λ m. AreAnswered edition operations n history s.variables (m + 1) cs ls) place answers)
            (more ∙ ap (λ j. own_entries_from n j later) long)
            (λ j other. own_there j k e later (λ q. other (sym q ∙ own)) ∙ ap (λ i. own_entries_from j i later) long),
      )

  left_after : (n : ℕ) (w : World) (v : Variables) (f : ℕ) (cs : List Command) (l : Line)
      → n < length w.sessions
      → (session_at (set w.sessions n (after_line n w v f cs l)) n).left ≡ cs
  unfolding after_line
  left_after n w v f cs l inside =
      ap (λ (s : SessionState). s.left) (get_or-set_same w.sessions n (after_line n w v f cs l) (new_session 0 []) inside)

  pub none_to_come : (n : ℕ) (v : Variables) (f : ℕ) (to_come : List Line)
      → AreAnswered edition operations n history v f [] to_come → to_come ≡ []
  none_to_come n v f [] a = refl
  none_to_come n v f (l ∷ ls) a = absurd a

  -- ---- up to and with the change that is the next entry
  -- what comes of a turn of session n
  record Turned (n : ℕ) (w : World) (later : List Entry) : Type 0 where
    pub on : GoesOn w later
    pub is_turn : IsTurn edition operations n w on.world

  turn_line : (n : ℕ) (e : Entry) (later : List Entry) (c : Command) (cs : List Command)
      (w : World) → AreComing w (e ∷ later) → e.session ≡ n → n < length w.sessions
      → (session_at w.sessions n).left ≡ c ∷ cs
      → ((u : World) → AreComing u (e ∷ later) → n < length u.sessions
      → (session_at u.sessions n).left ≡ cs → Turned n u later)
      → (session_at w.sessions n).front ≤ length w.history
      → (l : Line) (ls : List Line) (v : Variables) (f : ℕ) → lines_at w n ++ l ∷ ls ≡ lines n
      → IsAnswered edition operations n history (session_at w.sessions n).variables
      (session_at w.sessions n).front c l v f
      → AreAnswered edition operations n history v f cs ls
      → changes_of (l ∷ ls) ≡ own_entries_from n (length w.history) (e ∷ later) → Turned n w later
  turn_line n e later c cs w C own inside next go within l ls v f joined (change {request} {reply} requested changed beyond at) more changes =
      let (u, entered, G) = change_event n w e later c cs l ls request reply C own inside next joined requested changed at more changes in
      record {
        on = record {
          events = n ∷ [];
          world = u;
          runs = (u, G.happens, refl);
          coming = G.coming;
          same = G.same;
        };
        is_turn = record {
          reads = 0;
          before = w;
          quiet = refl;
          no_entry = refl;
          entry = record { session = n; request = request; reply = reply };
          change = G.happens;
          entered = entered;
        };
      }
  turn_line n e later c cs w C own inside next go within l ls v f joined (read {L} {after} none mark seen has) more changes =
      let t = after_line n w after (session_at w.sessions n).front cs l in
      let u : World = record { history = w.history; sessions = set w.sessions n t } in
      let G : Goes n w u (e ∷ later) = read_event n w (e ∷ later) c cs l ls L after C inside next within joined none mark seen has more changes in
      let T : Turned n u later = go u G.coming (omega (arith, inside, G.same)) (left_after n w after (session_at w.sessions n).front cs l inside) in
      record {
        on = record {
          events = n ∷ T.on.events;
          world = T.on.world;
          runs = (u, G.happens, T.on.runs);
          coming = T.on.coming;
          same = T.on.same ∙ G.same;
        };
        is_turn = record {
          reads = suc T.is_turn.reads;
          before = T.is_turn.before;
          quiet = (u, G.happens, T.is_turn.quiet);
          no_entry = T.is_turn.no_entry;
          entry = T.is_turn.entry;
          change = T.is_turn.change;
          entered = T.is_turn.entered;
        };
      }

  turn_lines : (n : ℕ) (e : Entry) (later : List Entry) (c : Command) (cs : List Command)
      (w : World) → AreComing w (e ∷ later) → e.session ≡ n → n < length w.sessions
      → (session_at w.sessions n).left ≡ c ∷ cs
      → ((u : World) → AreComing u (e ∷ later) → n < length u.sessions
      → (session_at u.sessions n).left ≡ cs → Turned n u later)
      → (session_at w.sessions n).front ≤ length w.history
      → (to_come : List Line) → lines_at w n ++ to_come ≡ lines n
      → AreAnswered edition operations n history (session_at w.sessions n).variables
      (session_at w.sessions n).front (c ∷ cs) to_come
      → changes_of to_come ≡ own_entries_from n (length w.history) (e ∷ later) → Turned n w later
  turn_lines n e later c cs w C own inside next go within [] joined answers changes = absurd answers
  turn_lines n e later c cs w C own inside next go within (l ∷ ls) joined (v, f, one, more) changes =
      turn_line n e later c cs w C own inside next go within l ls v f joined one more changes

  turn : (n : ℕ) (e : Entry) (later : List Entry) (left : List Command) (w : World)
      → AreComing w (e ∷ later) → e.session ≡ n → n < length w.sessions
      → (session_at w.sessions n).left ≡ left → Turned n w later
  turn n e later [] w C own inside none =
      let s = session_at w.sessions n in
      let S = C.each n inside in
      let nothing_more : S.to_come ≡ [] = none_to_come n s.variables s.front S.to_come
      (subst (λ cs. AreAnswered edition operations n history s.variables s.front cs S.to_come) none S.answers) in
      absurd (not_both (changes_of S.to_come) (length w.history, e.reply) (own_entries_from n (suc (length w.history)) later)
      (ap changes_of nothing_more) (S.changes ∙ own_here n (length w.history) e later own))
  turn n e later (c ∷ cs) w C own inside next =
      let s = session_at w.sessions n in
      let S = C.each n inside in
      turn_lines n e later c cs w C own inside next (λ u D i m. turn n e later cs u D own i m) S.within S.to_come S.joined
      (subst (λ ds. AreAnswered edition operations n history s.variables s.front ds S.to_come) next S.answers) S.changes

  -- what comes of the turns of the sessions whose entries are left
  pub record AllTurned (w : World) (later : List Entry) : Type 0 where
    pub on : GoesOn w []
    pub are_turns : AreTurns edition operations (map (λ (e : Entry). e.session) later) w on.world

  -- **the turns of the sessions whose entries are left, in their order**
  pub turns : (later : List Entry) (w : World) → AreComing w later
      → All (λ (e : Entry). e.session < length w.sessions) later → AllTurned w later
  turns [] w C within = record {
    on = record { events = []; world = w; runs = refl; coming = C; same = refl };
    are_turns = refl;
  }
  turns (e ∷ later) w C within =
      let n = e.session in
      let inside : n < length w.sessions = All-head (λ (x : Entry). x.session < length w.sessions) e later within in
      let T : Turned n w later = turn n e later (session_at w.sessions n).left w C refl inside refl in
      let others : All (λ (x : Entry). x.session < length T.on.world.sessions) later = subst (λ k. All (λ (x : Entry). x.session < k) later) (sym T.on.same)
      (All-tail (λ (x : Entry). x.session < length w.sessions) e later within) in
      let R : AllTurned T.on.world later = turns later T.on.world T.on.coming others in
      record {
        on = record {
          events = T.on.events ++ R.on.events;
          world = R.on.world;
          runs = runs_both edition operations T.on.events R.on.events w T.on.world R.on.world T.on.runs R.on.runs;
          coming = R.on.coming;
          same = R.on.same ∙ T.on.same;
        };
        are_turns = (T.on.world, T.is_turn, R.are_turns);
      }

  -- ---- where no entry is left
  -- session n has played all that was left to it, and the others are as before
  record Ends (n : ℕ) (left : List Command) (w : World) : Type 0 where
    pub on : GoesOn w []
    pub count : on.events ≡ replicate (length left) n
    pub others : (k : ℕ) → (k ≡ n → ⊥) → session_at on.world.sessions k ≡ session_at w.sessions k

  end_line : (n : ℕ) (c : Command) (cs : List Command) (w : World) → AreComing w []
      → n < length w.sessions → (session_at w.sessions n).left ≡ c ∷ cs
      → ((u : World) → AreComing u [] → n < length u.sessions
      → (session_at u.sessions n).left ≡ cs → Ends n cs u)
      → (session_at w.sessions n).front ≤ length w.history
      → (l : Line) (ls : List Line) (v : Variables) (f : ℕ) → lines_at w n ++ l ∷ ls ≡ lines n
      → IsAnswered edition operations n history (session_at w.sessions n).variables
      (session_at w.sessions n).front c l v f
      → AreAnswered edition operations n history v f cs ls → changes_of (l ∷ ls) ≡ [] → Ends n (c ∷ cs) w
  end_line n c cs w C inside next go within l ls v f joined (change {request} {reply} requested changed beyond at) more changes =
      absurd (not_both (changes_of (l ∷ ls)) (l.mark, reply) (changes_of ls) changes (change_line l reply ls changed))
  end_line n c cs w C inside next go within l ls v f joined (read {L} {after} none mark seen has) more changes =
      let t = after_line n w after (session_at w.sessions n).front cs l in
      let u : World = record { history = w.history; sessions = set w.sessions n t } in
      let G : Goes n w u [] = read_event n w [] c cs l ls L after C inside next within joined none mark seen has more changes in
      let end : Ends n cs u = go u G.coming (omega (arith, inside, G.same)) (left_after n w after (session_at w.sessions n).front cs l inside) in
      record {
        on = record {
          events = n ∷ end.on.events;
          world = end.on.world;
          runs = (u, G.happens, end.on.runs);
          coming = end.on.coming;
          same = end.on.same ∙ G.same;
        };
        count = ap (λ events. n ∷ events) end.count;
        others = λ k other. end.others k other ∙ G.others k other;
      }

  end_lines : (n : ℕ) (c : Command) (cs : List Command) (w : World) → AreComing w []
      → n < length w.sessions → (session_at w.sessions n).left ≡ c ∷ cs
      → ((u : World) → AreComing u [] → n < length u.sessions
      → (session_at u.sessions n).left ≡ cs → Ends n cs u)
      → (session_at w.sessions n).front ≤ length w.history
      → (to_come : List Line) → lines_at w n ++ to_come ≡ lines n
      → AreAnswered edition operations n history (session_at w.sessions n).variables
      (session_at w.sessions n).front (c ∷ cs) to_come → changes_of to_come ≡ [] → Ends n (c ∷ cs) w
  end_lines n c cs w C inside next go within [] joined answers changes = absurd answers
  end_lines n c cs w C inside next go within (l ∷ ls) joined (v, f, one, more) changes =
      end_line n c cs w C inside next go within l ls v f joined one more changes

  end_session : (n : ℕ) (left : List Command) (w : World) → AreComing w []
      → n < length w.sessions → (session_at w.sessions n).left ≡ left → Ends n left w
  end_session n [] w C inside none = record {
    on = record { events = []; world = w; runs = refl; coming = C; same = refl };
    count = refl;
    others = λ k other. refl;
  }
  end_session n (c ∷ cs) w C inside next =
      let s = session_at w.sessions n in
      let S = C.each n inside in
      end_lines n c cs w C inside next (λ u D i m. end_session n cs u D i m) S.within S.to_come S.joined
      (subst (λ ds. AreAnswered edition operations n history s.variables s.front ds S.to_come) next S.answers) S.changes

  -- what comes of the sessions from n on that play what is left to them
  pub record AllEnd (n : ℕ) (counts : List ℕ) (w : World) : Type 0 where
    pub world : World
    pub runs : Runs edition operations (rest_from n counts) w world
    pub coming : AreComing world []
    pub same : length world.sessions ≡ length w.sessions

  -- **session after session plays what is left to it**
  pub end_from : (counts : List ℕ) (n : ℕ) (w : World) → AreComing w []
      → n + length counts ≡ length w.sessions
      → ((j : ℕ) → j < length counts
      → slice_index_or counts j 0 ≡ length (session_at w.sessions (n + j)).left)
      → AllEnd n counts w
  end_from [] n w C all left = record { world = w; runs = refl; coming = C; same = refl }
  end_from (count ∷ counts) n w C all left =
      let E : Ends n (session_at w.sessions n).left w = end_session n (session_at w.sessions n).left w C (omega (arith, all)) refl in
      let at : n + 0 ≡ n = omega arith in
      let here : count ≡ length (session_at w.sessions n).left = subst (λ k. count ≡ length (session_at w.sessions k).left) at (left 0 (omega arith)) in
      let runs : Runs edition operations (replicate count n) w E.on.world = subst (λ k. Runs edition operations (replicate k n) w E.on.world) (sym here)
      (subst (λ events. Runs edition operations events w E.on.world) E.count E.on.runs) in
      let A : AllEnd (suc n) counts E.on.world = end_from counts (suc n) E.on.world E.on.coming (omega (arith, all, E.on.same))
      (λ j l.
      let k : ℕ = suc n + j in
      let own : slice_index_or counts j 0 ≡ length (session_at w.sessions (n + suc j)).left = left (suc j) (omega (arith, l)) in
      let place : n + suc j ≡ k = omega arith in
      let at : slice_index_or counts j 0 ≡ length (session_at w.sessions k).left = subst (λ i. slice_index_or counts j 0 ≡ length (session_at w.sessions i).left) place own in
      let same : session_at E.on.world.sessions k ≡ session_at w.sessions k = E.others k (λ e. absurd (omega (arith, e))) in
      subst (λ (s : SessionState). slice_index_or counts j 0 ≡ length s.left) (sym same) at) in
      record {
        world = A.world;
        runs = runs_both edition operations (replicate count n) (rest_from (suc n) counts) w E.on.world A.world runs A.runs;
        coming = A.coming;
        same = omega (arith, A.same, E.on.same);
      }
