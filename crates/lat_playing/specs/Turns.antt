-- Sessions that take turns, and the transcript that is read off the places of its changes.
--     IsTurn n w w'           session n plays up to and with the next of its commands that makes
--                             an entry
--     AreTurns order w w'     these sessions take a turn each, one after the other
--     order_from place history     the sessions of the entries from this place on
--     IsByPlaces script text  the text of the world in which, after the prologue, the sessions take
--                             turns in the order of its own entries, and then play what is left
use Rattle.std.specs.Prelude.{◌≡◌, ℕ, List, [], ◌∷◌, ◌++◌, length, map, drop, replicate}
use Rattle.alg_model.specs.Lattices as lattices
use Rattle.lat_core.specs.declared.replies.Entry.{Entry}
use Rattle.lat_language.specs.declared.scripts.Script.{Script}
use Rattle.lat_session.specs.Outcomes.{Operations}
use Rattle.lat_playing.specs.Worlds.{World, only_prologue, open_sessions, rest, Happens, Runs}
use Rattle.lat_playing.specs.Transcripts.{IsText}

-- In a world's history the entries of a session are the changes among its lines, at their marks. So
-- these are the sessions of the changes, in the order of their marks.
abbrev pub order_from : ℕ → List Entry → List ℕ
order_from place history = map (λ (entry : Entry). entry.session) (drop place history)

module _ (edition : lattices.Edition) (operations : Operations) where
  -- Session n plays some commands that make no entry, and then one whose entry is the last of the
  -- history.
  pub record IsTurn (n : ℕ) (w w' : World) : Type 0 where
    pub reads : ℕ
    pub before : World
    pub quiet : Runs edition operations (replicate reads n) w before
    pub no_entry : before.history ≡ w.history
    pub entry : Entry
    pub change : Happens edition operations n before w'
    pub entered : w'.history ≡ w.history ++ entry ∷ []

  abbrev pub AreTurns : List ℕ → World → World → Type 0
  AreTurns [] w w' = w' ≡ w
  AreTurns (n ∷ order) w w' = (v : World) × IsTurn n w v × AreTurns order v w'

  -- The whole prologue is played, and the sessions open. Then each entry that came after those of
  -- the prologue is a turn of its session, in their order, and last the rest is played.
  pub record IsByPlaces (script : Script) (text : List ℕ) : Type 0 where
    pub prologue : World
    pub played : Runs edition operations (rest (only_prologue script.prologue))
        (only_prologue script.prologue) prologue
    pub turned : World
    pub world : World
    pub turns : AreTurns (order_from (length prologue.history) world.history)
        (open_sessions script prologue) turned
    pub runs : Runs edition operations (rest turned) turned world
    pub is_text : IsText edition script world text
