-- How the players of a book stand for a world. No public clause cites this module.
--     IsSeated h pass variables     the pass is one of the history, and the variables fit its view
--     Moves h pass h' pass' variables'     so it is afterwards, for this session and for
--                             all others, and at most one entry is new
--     PlaysCommand edition operations h pass variables command h' pass' variables' line     the
--                             line of a command, and what it leaves
--     Shown, shown s, shown_player p     what is kept of a session: its lines as a text
--     Shows w h players       the book and its players are those of the world
--     opened entries script   the session of a script, before its first command
--     left_counts players, left_count players     how many commands are left to each, and to all
--     AreReady h players      each can play what is left to it, and the history has room for all
--     PlaysLine h p h' p'     a player plays the next of its commands, or has none left
--     HasPlayed h p h' p'     the same, and what it leaves
--     HasPrologue, HasSolo    a prologue, and a script, that was played
--     Advances events h players h' players'     by these events, whatever the world was
use Rattle.std.specs.Prelude.{◌≡◌, ℕ, ◌+◌, ◌<◌, ◌≤◌, pred, List, [], ◌∷◌, ◌++◌, length, map, sum_by, All, slice_index_or}
use Rattle.alg_model.specs.Lattices as lattices
use Rattle.lat_core.specs.declared.outcomes.Line.{Line}
use Rattle.lat_language.specs.Texts.{line_text}
use Rattle.lat_language.specs.declared.commands.Command.{Command}
use Rattle.lat_session.specs.Variables.{Variables, AreVariables}
use Rattle.lat_session.specs.Commands.{IsProperCommand}
use Rattle.lat_session.specs.Outcomes.{Operations}
use Rattle.lat_history.specs.Books.{History}
use Rattle.lat_history.specs.Passes.{Pass, IsPassOf}
use Rattle.lat_playing.specs.declared.players.Player.{Player}
use Rattle.lat_language.specs.declared.scripts.Script.{Script}
use Rattle.lat_language.specs.declared.scripts.SessionScript.{SessionScript}
use Rattle.lat_playing.specs.Worlds.{SessionState, World, new_session, only_prologue, rest, HasLine, Runs, IsSolo}
use Rattle.lat_playing.specs.Transcripts.{lines_text}

-- the variables are values over the lattice that the pass sees
pub record IsSeated (h : History) (pass : Pass) (variables : Variables) : Type 0 where
  pub is_pass : IsPassOf h pass
  pub fit : AreVariables pass.view variables

pub record Moves (h : History) (pass : Pass) (h' : History) (pass' : Pass)
    (variables' : Variables) : Type 0 where
  pub edition : h'.edition ≡ h.edition
  pub room : h'.room ≡ h.room
  pub entries : length h'.entries ≤ length h.entries + 1
  pub number : pass'.number ≡ pass.number
  pub seated : IsSeated h' pass' variables'
  pub others : (other : Pass) → IsPassOf h other → IsPassOf h' other

-- the line of a command over a book, and what it leaves
pub record PlaysCommand (edition : lattices.Edition) (operations : Operations) (h : History)
    (pass : Pass) (variables : Variables) (command : Command) (h' : History) (pass' : Pass)
    (variables' : Variables) (line : Line) : Type 0 where
  pub moves : Moves h pass h' pass' variables'
  pub has_line : HasLine edition operations pass.number h.entries variables pass.front command
      h'.entries variables' pass'.front line

pub record Shown : Type 0 where
  pub variables : Variables
  pub front : ℕ
  pub left : List Command
  pub text : List ℕ

abbrev pub shown : SessionState → Shown
shown s = record {
  variables = s.variables;
  front = s.front;
  left = s.left;
  text = lines_text s.lines;
}

abbrev pub shown_player : Player → Shown
shown_player p = record {
  variables = p.session;
  front = p.pass.front;
  left = p.left.now;
  text = p.text.items;
}

-- a session of a script that opens when there are so many entries
abbrev pub opened : ℕ → SessionScript → Shown
opened entries script = shown (new_session entries script.commands)

pub record Shows (w : World) (h : History) (players : List Player) : Type 0 where
  pub history : w.history ≡ h.entries
  pub sessions : map shown w.sessions ≡ map shown_player players

-- a player of this number, which has proper commands left
pub record IsReady (h : History) (number : ℕ) (p : Player) : Type 0 where
  pub numbered : p.pass.number ≡ number
  pub seated : IsSeated h p.pass p.session
  pub proper : All IsProperCommand p.left.now

-- how many commands are left to each
abbrev pub left_counts : List Player → List ℕ
left_counts players = map (λ (p : Player). length p.left.now) players

abbrev pub left_count : List Player → ℕ
left_count players = sum_by (λ (p : Player). length p.left.now) players

pub record AreReady (h : History) (players : List Player) : Type 0 where
  pub each : (k : ℕ) (d : Player) → k < length players → IsReady h k (slice_index_or players k d)
  pub room : length h.entries + left_count players ≤ h.room

module _ (operations : Operations) where
  -- the line of the command is added to the text
  pub data PlaysLine (h : History) (p : Player) (h' : History) (p' : Player) : Type 0 where
    nothing : p.left.now ≡ [] → h' ≡ h → shown_player p' ≡ shown_player p → PlaysLine h p h' p'
    plays : {command : Command} {line : Line} → p.left.now ≡ command ∷ p'.left.now
        → HasLine h.edition operations p.pass.number h.entries p.session p.pass.front command
        h'.entries p'.session p'.pass.front line
        → p'.text.items ≡ p.text.items ++ line_text line → PlaysLine h p h' p'

  -- the history, the players and the world have gone on by the events
  pub record Advances (events : List ℕ) (h : History) (players : List Player) (h' : History)
      (players' : List Player) : Type 0 where
    pub edition : h'.edition ≡ h.edition
    pub room : h'.room ≡ h.room
    pub fewer : length h'.entries + left_count players' ≤ length h.entries + left_count players
    pub same_players : length players' ≡ length players
    pub runs : (w : World) → Shows w h players
        → (w' : World) × Runs h.edition operations events w w' × Shows w' h' players'

pub record HasPlayed (operations : Operations) (h : History) (p : Player) (h' : History)
    (p' : Player) : Type 0 where
  pub moves : Moves h p.pass h' p'.pass p'.session
  pub left : length p'.left.now ≡ pred (length p.left.now)
  pub proper : All IsProperCommand p.left.now → All IsProperCommand p'.left.now
  pub entries : length h'.entries + length p'.left.now ≤ length h.entries + length p.left.now
  pub line : PlaysLine operations h p h' p'

module _ (operations : Operations) where
  -- the player of a prologue, which it has played
  pub record HasPrologue (h : History) (commands : List Command) (h' : History)
      (players : List Player) : Type 0 where
    pub edition : h'.edition ≡ h.edition
    pub room : h'.room ≡ h.room
    pub fewer : length h'.entries + left_count players ≤ length commands
    pub one : length players ≡ 1
    pub prologue : World
    pub played : Runs h.edition operations (rest (only_prologue commands)) (only_prologue commands)
        prologue
    pub shows : Shows prologue h' players

  -- the players of a script, which they have played
  pub record HasSolo (h : History) (script : Script) (h' : History) (players : List Player)
      : Type 0 where
    pub edition : h'.edition ≡ h.edition
    pub room : h'.room ≡ h.room
    pub world : World
    pub solo : IsSolo h.edition operations script world
    pub shows : Shows world h' players
    pub all_players : length players ≡ length script.sessions + 1
