-- What is answered by the schedule may be answered where any order of turns is admitted.
use Rattle.std.proofs.Common.{true, false, ℕ, List, Option}
use Rattle.alg_model.specs.Lattices.{first_edition}
use Rattle.lat_io.specs.Streams.{Stream}
use Rattle.lat_language.specs.declared.scripts.Script.{Script}
use Rattle.lat_session.specs.Outcomes.{Operations}
use Rattle.lat_playing.proofs.ScriptLaws.{solo_fair}
use Rattle.lattice_run.specs.declared.tasks.Task.{Task}
use Rattle.lattice_run.specs.declared.tasks.Output.{Output}
use Rattle.lattice_run.specs.declared.tasks.Output.TheVariants.{Transcript, SharedTranscript, Dump}
use Rattle.lattice_run.specs.declared.tasks.Task.TheVariants.{Play, Audit, Gen}
use Rattle.lattice_run.specs.Answers.{IsPlayed, IsOutput}
use Rattle.lattice_run.specs.Answers.Answers.{usage, too_long, bad_line, dump_too_long, bad_dump, output}
use Rattle.lattice_run.specs.PrivateRuns.{Ran}
use Rattle.lattice_run.specs.PrivateRuns.Ran.{delivered, unread, no_memory}
use Rattle.lattice_run.specs.Theorems.{AnswerIsOneWithThreads}

-- the transcript by the schedule is one of the sessions in some order
played_with : (operations : Operations) (wanted : Output) (script : Script) (text : List ℕ)
    → IsPlayed false operations wanted script text → IsPlayed true operations wanted script text
played_with operations Transcript script text t = t
played_with operations SharedTranscript script text t =
    solo_fair first_edition operations script text t
played_with operations Dump script text d = d

output_with : (operations : Operations) (task : Task) (input text : List ℕ)
    → IsOutput false operations task input text → IsOutput true operations task input text
output_with operations (Play wanted) input text (script, s, p) =
    (script, s, played_with operations wanted script text p)
output_with operations Audit input text o = o
output_with operations (Gen s f m) input text o = o

-- **an answer by the schedule is one where any order is admitted**
pub answer_with_threads : AnswerIsOneWithThreads
answer_with_threads operations asked input status text (usage e) = usage e
answer_with_threads operations asked input status text (too_long p l) = too_long p l
answer_with_threads operations asked input status text (bad_line p f line kind b) = bad_line p f line kind b
answer_with_threads operations asked input status text (dump_too_long a l) = dump_too_long a l
answer_with_threads operations asked input status text (bad_dump a f v j w) = bad_dump a f v j w
answer_with_threads operations asked input status text (output task t is f o) =
    output task t is f (output_with operations task input t o)

-- and so may a run leave
pub ran_with_threads : {operations : Operations} {asked : Option Task}
    {source source' sink sink' : Stream} {result : ℕ}
    → Ran false operations asked source source' sink sink' result
    → Ran true operations asked source source' sink sink' result
ran_with_threads {operations} {asked} (delivered input status text u i a d) =
    delivered input status text u i (answer_with_threads operations asked input status text a) d
ran_with_threads (unread reads e r k) = unread reads e r k
ran_with_threads (no_memory named t e r k) = no_memory named t e r k
