-- From what a session does over its port to what it leaves of its book.
use Rattle.std.proofs.Common.{◌≡◌, ℕ, ◌+◌, ◌<◌, ◌≤◌, List, [], ◌∷◌, ◌++◌, length, take, refl, sym, ap, ap₂, ◌∙◌, subst, arith, length-append, length-take, append-nil}
use Rattle.std.specs.Prelude.{All, Result, Ok, Err, IfOk, OnOk}
use Rattle.std.proofs.lemmas.List.Elements.{All-tail}
use Rattle.alg_model.specs.Lattices as lattices
use Rattle.alg_model.specs.Lattices.{Lattice}
use Rattle.lat_core.specs.declared.requests.Request.{Request}
use Rattle.lat_core.specs.declared.replies.Reply.{Reply}
use Rattle.lat_core.specs.declared.replies.Entry.{Entry}
use Rattle.lat_core.specs.declared.outcomes.Outcome.{Outcome}
use Rattle.lat_core.specs.declared.outcomes.Outcome.TheVariants.{Changed}
use Rattle.lat_core.specs.declared.outcomes.Line.{Line}
use Rattle.lat_core.specs.Step.{Steps}
use Rattle.lat_core.specs.Histories.{IsAfter, IsLegal, IsKnowledge, IsPlaced, IsUnplaced}
use Rattle.lat_core.proofs.HistoryLaws.{leads_split}
use Rattle.lat_core.specs.declared.memory.NoMemory.{NoMemory}
use Rattle.lat_language.specs.Texts.{line_text}
use Rattle.lat_session.specs.Commands.{IsProperCommand}
use Rattle.lat_language.specs.declared.commands.Command.{Command}
use Rattle.lat_session.specs.Variables.{Variables, AreVariables}
use Rattle.lat_session.specs.Outcomes.{Operations}
use Rattle.lat_session.specs.Playing.{IsSeen, FitSeen, PlaysOver}
use Rattle.lat_session.specs.Playing.PlaysOver.{change, full, read}
use Rattle.lat_history.specs.Books.{History, IsHistory}
use Rattle.lat_history.specs.Passes.{Pass, IsPassOf, seen_of, known_of}
use Rattle.lat_history.proofs.BookLemmas.{legal_take}
use Rattle.lat_history.specs.declared.solo_ports.SoloPort.{SoloPort}
use Rattle.lat_history.proofs.PassLemmas.{pass_of_longer, port_leaves}
use Rattle.lat_playing.specs.declared.players.Player.{Player}
use Rattle.lat_playing.specs.Worlds.{HasLine}
use Rattle.lat_playing.specs.Worlds.HasLine.{change as change_line, read as read_line}
use Rattle.lat_playing.specs.PrivatePlays.{IsSeated, Moves, PlaysCommand, HasPlayed}
use Rattle.lat_playing.specs.PrivatePlays.PlaysLine.{nothing as no_line, plays as next_line}

-- the lattice that is seen is the view of the pass
pub seen_view : (h : History) (pass : Pass) → IsHistory h → IsPassOf h pass
    → IsSeen (known_of h pass) pass.view
seen_view h pass whole p =
    let (L, after) = legal_take h.edition h.entries pass.front whole.legal in
    record {
      edition = whole.of_edition;
      after = subst (λ (M : Lattice). IsAfter h.edition (seen_of h pass) M) (p.view L after) after;
    }

-- so variables that fit it fit what is seen
pub seated_fits : (h : History) (pass : Pass) (variables : Variables) → IsHistory h
    → IsSeated h pass variables → FitSeen (known_of h pass) variables
seated_fits h pass variables whole s = record {
  lattice = pass.view;
  seen = seen_view h pass whole s.is_pass;
  fit = s.fit;
}

-- and the other way round
pub fits_seated : (h : History) (pass : Pass) (variables : Variables) → IsPassOf h pass
    → FitSeen (known_of h pass) variables → IsSeated h pass variables
fits_seated h pass variables p F = record {
  is_pass = p;
  fit = subst (λ (L : Lattice). AreVariables L variables) (p.view F.lattice F.seen.after) F.fit;
}

-- the last entry of a legal history is answered by the step from the lattice after those before it
pub last_step : (edition : lattices.Edition) (entries : List Entry) (entry : Entry)
    → IsLegal edition (entries ++ entry ∷ [])
    → (L : Lattice) × (M : Lattice) × IsAfter edition entries L
    × Steps L entry.request entry.reply M
last_step edition entries entry (M, a) =
    let (L, first, last) = leads_split entries (entry ∷ []) a.opening M a.leads in
    let (N, proper, step, same) = last in
    (L, N, record { opening = a.opening; of_edition = a.of_edition; is_opening = a.is_opening; leads = first }, step)

abbrev line_at : Outcome → ℕ → Line
line_at outcome mark = record { outcome = outcome; mark = mark }

-- what is told of a port that is alone is its history, with the session's own entry at the end
module _ (h h' : History) (pass pass' : Pass) (P : IsPassOf h pass) (P' : IsPassOf h' pass')
    (K : IsKnowledge (known_of h' pass')) where
  -- a change
  placed_entries : (request : Request) (reply : Reply) (place : ℕ)
      → IsPlaced (known_of h pass) (known_of h' pass') request reply place
      → (h'.entries ≡ h.entries
      ++ record { session = pass.number; request = request; reply = reply } ∷ [])
      × (place ≡ length h.entries) × (pass'.front ≡ length h.entries + 1)
  placed_entries request reply place placed =
      let none : placed.others ≡ [] = placed.are_others.none_alone refl in
      let told : h'.entries ≡ h.entries ++ record { session = pass.number; request = request; reply = reply } ∷ [] =
      placed.told ∙ ap (λ es. h.entries ++ es ++ record { session = pass.number; request = request; reply = reply } ∷ []) none
      ∙ ap (λ es. es ++ record { session = pass.number; request = request; reply = reply } ∷ []) (append-nil h.entries) in
      let t = ap length placed.seen in (
        told,
        omega (arith, placed.at_end, ap length none),
        omega (arith, t, length-take pass'.front h'.entries, P'.within, ap length told, length-append h.entries (record { session = pass.number; request = request; reply = reply } ∷ [])),
      )

  -- no change
  unplaced_entries : IsUnplaced (known_of h pass) (known_of h' pass') → h'.entries ≡ h.entries
  unplaced_entries unplaced =
      unplaced.told ∙ ap (λ es. h.entries ++ es) (unplaced.are_others.none_alone refl)
      ∙ append-nil h.entries

  -- **the line of a command**
  pub line_of : (operations : Operations) (variables after : Variables) (command : Command)
      (l : Line) → length h.entries < h.room
      → PlaysOver operations (known_of h pass) variables command (known_of h' pass') after l
      → HasLine h.edition operations pass.number h.entries variables pass.front command h'.entries
      after pass'.front l
  line_of operations variables after command l room (change {request} {reply} {place} asked placed) =
      let own : Entry = record { session = pass.number; request = request; reply = reply } in
      let (told, at_end, front) = placed_entries request reply place placed in
      let legal : IsLegal h.edition (h.entries ++ own ∷ []) =
      subst (λ es. IsLegal h.edition es) told (subst (λ e. IsLegal e h'.entries) placed.same.edition K.legal) in
      let (L, M, is_after, step) = last_step h.edition h.entries own legal in
      subst (λ es. HasLine h.edition operations pass.number h.entries variables pass.front command es variables pass'.front (line_at (Changed reply) place)) (sym told)
      (subst (λ f. HasLine h.edition operations pass.number h.entries variables pass.front command (h.entries ++ own ∷ []) variables f (line_at (Changed reply) place)) (sym front)
      (subst (λ m. HasLine h.edition operations pass.number h.entries variables pass.front command (h.entries ++ own ∷ []) variables (length h.entries + 1) (line_at (Changed reply) m)) (sym at_end)
      (change_line M asked is_after step)))
  line_of operations variables after command l room (full {request} {n} asked unplaced refused) =
      let same = unplaced_entries unplaced in
      absurd (omega (arith, refused.0, refused.1, ap length same, unplaced.same.room, room))
  line_of operations variables after command l room (read {L} {outcome} none same seen has) =
      let e : h'.entries ≡ h.entries = ap (λ k. k.told) same in
      let t : length (take pass'.front h'.entries) ≡ length (take pass.front h.entries) = ap (λ k. length k.seen) same in
      let front : pass'.front ≡ pass.front = omega (arith, t, length-take pass'.front h'.entries, length-take pass.front h.entries, P.within, P'.within) in
      let mark : length (take pass.front h.entries) ≡ pass.front = omega (arith, length-take pass.front h.entries, P.within) in
      subst (λ es. HasLine h.edition operations pass.number h.entries variables pass.front command es after pass'.front (line_at outcome (length (take pass.front h.entries)))) (sym e)
      (subst (λ f. HasLine h.edition operations pass.number h.entries variables pass.front command h.entries after f (line_at outcome (length (take pass.front h.entries)))) (sym front)
      (subst (λ m. HasLine h.edition operations pass.number h.entries variables pass.front command h.entries after pass.front (line_at outcome m)) (sym mark)
      (read_line none seen has)))

  -- **what a command leaves**
  grown : (after : Variables) (more : List Entry) → h'.edition ≡ h.edition → h'.room ≡ h.room
      → pass'.number ≡ pass.number → h'.entries ≡ h.entries ++ more → length more ≤ 1
      → FitSeen (known_of h' pass') after → Moves h pass h' pass' after
  grown after more edition room number told few F = record {
    edition = edition;
    room = room;
    entries = omega (arith, ap length told, length-append h.entries more, few);
    number = number;
    seated = fits_seated h' pass' after P' F;
    others = λ other p. pass_of_longer h h' other more edition told p;
  }

  pub moves_by : (operations : Operations) (variables after : Variables) (command : Command)
      (l : Line) → PlaysOver operations (known_of h pass) variables command (known_of h' pass') after l
      → FitSeen (known_of h' pass') after → Moves h pass h' pass' after
  moves_by operations variables after command l (change {request} {reply} {place} asked placed) F =
      let (told, at_end, front) = placed_entries request reply place placed in
      grown after (record { session = pass.number; request = request; reply = reply } ∷ []) placed.same.edition placed.same.room placed.same.number told (omega arith) F
  moves_by operations variables after command l (full asked unplaced refused) F =
      grown after [] unplaced.same.edition unplaced.same.room unplaced.same.number
      (unplaced_entries unplaced ∙ sym (append-nil h.entries)) (omega arith) F
  moves_by operations variables after command l (read none same seen has) F =
      grown after [] (ap (λ k. k.edition) same) (ap (λ k. k.room) same) (ap (λ k. k.number) same)
      (ap (λ k. k.told) same ∙ sym (append-nil h.entries)) (omega arith) F

-- ---- through a port
module _ (old new : SoloPort) (h h' : History) (pass pass' : Pass) (e : old.book.now ≡ h)
    (d : old.pass.now ≡ pass) (e' : h' ≡ new.book.now) (d' : pass' ≡ new.pass.now)
    (P : IsPassOf h pass) (K : IsKnowledge (known_of new.book.now new.pass.now)) where
  known_before : known_of old.book.now old.pass.now ≡ known_of h pass
  known_before = ap₂ (λ (g : History) (p : Pass). known_of g p) e d

  known_after : known_of new.book.now new.pass.now ≡ known_of h' pass'
  known_after = ap₂ (λ (g : History) (p : Pass). known_of g p) (sym e') (sym d')

  over : (operations : Operations) (variables after : Variables) (command : Command) (l : Line)
      → PlaysOver operations (known_of old.book.now old.pass.now) variables command
      (known_of new.book.now new.pass.now) after l
      → PlaysOver operations (known_of h pass) variables command (known_of h' pass') after l
  over operations variables after command l h =
      subst (λ k. PlaysOver operations k variables command (known_of h' pass') after l) known_before
      (subst (λ k. PlaysOver operations (known_of old.book.now old.pass.now) variables command k after l) known_after h)

  plays_command : (operations : Operations) (variables after : Variables) (command : Command)
      (l : Line) → length h.entries < h.room
      → PlaysOver operations (known_of old.book.now old.pass.now) variables command
      (known_of new.book.now new.pass.now) after l
      → FitSeen (known_of new.book.now new.pass.now) after
      → PlaysCommand h.edition operations h pass variables command h' pass' after l
  plays_command operations variables after command l room played F =
      let Q = port_leaves new h' pass' e' d' in
      let N = subst IsKnowledge known_after K in
      let there = over operations variables after command l played in
      record {
        moves = moves_by h h' pass pass' P Q N operations variables after command l there (subst (λ k. FitSeen k after) known_after F);
        has_line = line_of h h' pass pass' P Q N operations variables after command l room there;
      }

  -- **a command through a port**
  pub port_plays : (operations : Operations) (variables after : Variables) (command : Command)
      (result : Result Line NoMemory) → length h.entries < h.room
      → IfOk result (PlaysOver operations (known_of old.book.now old.pass.now) variables command
      (known_of new.book.now new.pass.now) after)
      → FitSeen (known_of new.book.now new.pass.now) after
      → IfOk result (PlaysCommand h.edition operations h pass variables command h' pass' after)
  port_plays operations variables after command (Ok l) room played F = plays_command operations variables after command l room played F
  port_plays operations variables after command (Err fault) room played F = tt

-- what a session needs of its port
pub port_fits : (port : SoloPort) (h : History) (pass : Pass) (variables : Variables)
    → port.book.now ≡ h → port.pass.now ≡ pass → IsHistory h → IsSeated h pass variables
    → FitSeen (known_of port.book.now port.pass.now) variables
port_fits port h pass variables e d whole s =
    subst (λ k. FitSeen k variables) (sym (ap₂ (λ (g : History) (p : Pass). known_of g p) e d)) (seated_fits h pass variables whole s)

-- ---- the next of the commands that are left
pub next_played : {operations : Operations} (h : History) (p : Player) (h' : History) (p' : Player)
    (command : Command) (l : Line) (rest : List Command) → p.left.now ≡ command ∷ rest
    → PlaysCommand h.edition operations h p.pass p.session command h' p'.pass p'.session l
    → p'.left.now ≡ rest → p'.text.items ≡ p.text.items ++ line_text l
    → HasPlayed operations h p h' p'
next_played {operations} h p h' p' command l rest e played d text = record {
  moves = played.moves;
  left = omega (arith, ap length e, ap length d);
  proper = λ all. subst (All IsProperCommand) (sym d) (All-tail IsProperCommand command rest (subst (All IsProperCommand) e all));
  entries = omega (arith, played.moves.entries, ap length e, ap length d);
  line = next_line (e ∙ ap (λ r. command ∷ r) (sym d)) played.has_line text;
}

-- the same, where there was memory for the line
pub next_adds : {operations : Operations} (h : History) (p : Player) (h' : History) (p' : Player)
    (command : Command) (l : Line) (rest : List Command) → p.left.now ≡ command ∷ rest
    → PlaysCommand h.edition operations h p.pass p.session command h' p'.pass p'.session l
    → {E : Type 0} (result : Result (Unit {0}) E)
    → OnOk result (p'.text.items ≡ p.text.items ++ line_text l) → p'.left.now ≡ rest
    → OnOk result (HasPlayed operations h p h' p')
next_adds h p h' p' command l rest e played (Ok u) text d = next_played h p h' p' command l rest e played d text
next_adds h p h' p' command l rest e played (Err fault) text d = tt

-- none is left
pub none_played : {operations : Operations} (h : History) (p : Player) → length p.left.now ≡ 0
    → IsSeated h p.pass p.session → HasPlayed operations h p h p
none_played {operations} h p none s = record {
  moves = record {
    edition = refl;
    room = refl;
    entries = omega arith;
    number = refl;
    seated = s;
    others = λ other q. q;
  };
  left = omega (arith, none);
  proper = λ all. all;
  entries = omega arith;
  line = no_line (empty_of_length p.left.now none) refl refl;
}
  where
    empty_of_length : (xs : List Command) → length xs ≡ 0 → xs ≡ []
    empty_of_length [] e = refl
    empty_of_length (x ∷ xs) e = absurd (omega (arith, e))
