-- The lines of a play and the summary are the transcript of its script; the summary alone, and the
-- dump of the lattice, are those of its script.
use Rattle.std.proofs.Common.{◌≡◌, Bool, ℕ, List, [], ◌++◌, length, sym, ap, ap₂, ◌∙◌, subst}
use Rattle.alg_model.specs.Lattices.{Lattice, first_edition}
use Rattle.ff_poly.specs.Polynomial.{Polynomial}
use Rattle.lat_io.specs.Streams.{Stream}
use Rattle.lat_core.specs.declared.replies.Entry.{Entry}
use Rattle.lat_core.specs.SharedRows.{map_count}
use Rattle.lat_core.specs.Histories.{IsAfter}
use Rattle.lat_core.proofs.HistoryLaws.{history_one}
use Rattle.lat_language.specs.declared.scripts.Script.{Script}
use Rattle.lat_language.specs.Texts.{summary_text}
use Rattle.lat_session.specs.Outcomes.{Operations, operations_of, KeepsValues}
use Rattle.lat_history.specs.Books.{History}
use Rattle.lat_playing.specs.declared.plays.Performance.{Performance}
use Rattle.lat_playing.specs.Worlds.{World}
use Rattle.lat_playing.specs.Transcripts.{sessions_text, IsText, IsTranscript, IsFair}
use Rattle.lat_playing.specs.Plays.{IsPlayable, Performs, PerformsFairly}
use Rattle.lat_playing.proofs.ScriptLaws.{one_solo, some_transcript}
use Rattle.alg_compatible.proofs.Editions.{first_is_edition}
use Rattle.lat_audit.specs.Dumps.{dump_text}
use Rattle.lattice_run.specs.Answers.{Final, IsSummary, IsDump}
use Rattle.lattice_run.specs.Headline.{Headline}
use Rattle.lattice_run.specs.PrivateRuns.{AddsSummary}

-- the summary of a book, from its counts
pub adds_summary : (book : History) (L : Lattice) (fields maps changes : ℕ) (old new : List ℕ)
    → IsAfter book.edition book.entries L → fields ≡ length L.rows → maps ≡ map_count L
    → changes ≡ length book.entries → new ≡ old ++ summary_text fields maps changes
    → AddsSummary book old new
adds_summary book L fields maps changes old new after f m n is = (
  L,
  after,
  is ∙ ap₂ (λ a b. old ++ summary_text a b changes) f m
      ∙ ap (λ c. old ++ summary_text (length L.rows) (map_count L) c) n,
)

-- the lattice after the history of a book that was played
lattice_after : (p : Performance) (L : Lattice) (history : List Entry)
    → p.book.edition ≡ first_edition → p.book.entries ≡ history
    → IsAfter p.book.edition p.book.entries L → IsAfter first_edition history L
lattice_after p L history edition is after =
    subst (λ (es : List Entry). IsAfter first_edition es L) is (subst (λ e. IsAfter e p.book.entries L) edition after)

-- the lines of a world, and the summary, are its text
text_is : (script : Script) (p : Performance) (world : World) (text : List ℕ)
    → p.book.edition ≡ first_edition → p.book.entries ≡ world.history
    → p.lines.items ≡ sessions_text script world → AddsSummary p.book p.lines.items text
    → IsText first_edition script world text
text_is script p world text edition history lines (L, after, is) = record {
  lattice = L;
  after = lattice_after p L world.history edition history after;
  is = is ∙ ap₂ (λ t (es : List Entry). t ++ summary_text (length L.rows) (map_count L) (length es)) lines history;
}

module _ (operations : Operations) (script : Script) where
  -- **the transcript of a script that was played**
  pub transcript_is : (p : Performance) (text : List ℕ) → Performs first_edition operations script p
      → AddsSummary p.book p.lines.items text → IsTranscript first_edition operations script text
  transcript_is p text P added = record {
    world = P.world;
    solo = P.solo;
    is_text = text_is script p P.world text P.of_edition P.history P.lines added;
  }

  -- **that of a script whose sessions were played in some order**
  pub fair_is : (p : Performance) (text : List ℕ) → PerformsFairly first_edition operations script p
      → AddsSummary p.book p.lines.items text → IsFair first_edition operations script text
  fair_is p text P added = record {
    events = P.events;
    world = P.world;
    is_world = P.is_world;
    none_left = P.none_left;
    is_text = text_is script p P.world text P.of_edition P.history P.lines added;
  }

  -- **the world of a script that was played, and its lattice**
  abbrev final_of : (p : Performance) (L : Lattice) → Performs first_edition operations script p
      → IsAfter p.book.edition p.book.entries L → Final first_edition operations script
  final_of p L P after =
      record { world = P.world; solo = P.solo; lattice = L; after = lattice_after p L P.world.history P.of_edition P.history after }

  -- **its summary alone**
  pub summary_is : (p : Performance) (text : List ℕ) → Performs first_edition operations script p
      → AddsSummary p.book [] text → IsSummary first_edition operations script text
  summary_is p text P (L, after, is) = (
    final_of p L P after,
    is ∙ ap (λ (es : List Entry). summary_text (length L.rows) (map_count L) (length es)) P.history,
  )

  -- **its dump**
  pub dump_is : (p : Performance) (L : Lattice) (text : List ℕ)
      → Performs first_edition operations script p → IsAfter p.book.edition p.book.entries L
      → text ≡ dump_text L → IsDump first_edition operations script text
  dump_is p L text P after is = (final_of p L P after, is)

  -- a playable script has an end
  pub some_final : KeepsValues operations → IsPlayable script
      → Final first_edition operations script
  some_final keeps playable =
      let (text, t) = some_transcript first_edition operations script first_is_edition keeps playable in
      record { world = t.world; solo = t.solo; lattice = t.is_text.lattice; after = t.is_text.after }

  -- and only one
  one_world : KeepsValues operations → IsPlayable script → (f g : Final first_edition operations script)
      → f.world ≡ g.world
  one_world keeps playable f g =
      one_solo first_edition operations script f.world g.world first_is_edition keeps playable f.solo g.solo

  one_lattice : (f g : Final first_edition operations script) → f.world ≡ g.world
      → f.lattice ≡ g.lattice
  one_lattice f g same =
      history_one first_edition f.world.history f.lattice g.lattice first_is_edition f.after
      (subst (λ (w : World). IsAfter first_edition w.history g.lattice) (sym same) g.after)

  pub one_summary : KeepsValues operations → IsPlayable script → (text other : List ℕ)
      → IsSummary first_edition operations script text
      → IsSummary first_edition operations script other → text ≡ other
  one_summary keeps playable text other (f, is) (g, also) =
      let world = one_world keeps playable f g in
      is ∙ ap₂ (λ (L : Lattice) (w : World). summary_text (length L.rows) (map_count L) (length w.history))
      (one_lattice f g world) world
      ∙ sym also

  pub one_dump : KeepsValues operations → IsPlayable script → (text other : List ℕ)
      → IsDump first_edition operations script text
      → IsDump first_edition operations script other → text ≡ other
  one_dump keeps playable text other (f, is) (g, also) =
      is ∙ ap dump_text (one_lattice f g (one_world keeps playable f g)) ∙ sym also

-- operations of the same tables
pub same_operations : (threads : Bool) (words : List (List ℕ)) (source source' sink sink' : Stream) (result : ℕ)
    (first first' second second' third third' : List Polynomial) → first ≡ first'
    → second ≡ second' → third ≡ third'
    → Headline threads (operations_of first second third) words source source' sink sink' result
    → Headline threads (operations_of first' second' third') words source source' sink sink' result
same_operations threads words source source' sink sink' result first first' second second' third third' e d b h =
    subst (λ t. Headline threads (operations_of t second' third') words source source' sink sink' result) e
    (subst (λ t. Headline threads (operations_of first t third') words source source' sink sink' result) d
    (subst (λ t. Headline threads (operations_of first second t) words source source' sink sink' result) b h))
