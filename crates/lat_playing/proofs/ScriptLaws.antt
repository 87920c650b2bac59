-- The laws of scripts, from what is known of outcomes.
use Rattle.std.proofs.Common.{◌+◌, ◌++◌, map}
use Rattle.lat_playing.specs.Worlds.{open_sessions, rest}
use Rattle.lat_playing.specs.Theorems.{ScriptHasOneWorld, ScriptHasWorld, ScriptHasOneSolo, ScriptHasOneTranscript, ScriptHasTranscript, SoloIsWorld, HistoryIsLegal, SoloIsFair}
use Rattle.lat_playing.proofs.WorldEvents.{runs_both}
use Rattle.lat_playing.proofs.FinishedWorlds.{solo_finished}
use Rattle.lat_playing.proofs.ScriptWorlds.{world_sound, world_one, world_exists, solo_one, transcript_one, transcript_exists}

-- **one world, and one transcript**
pub one_world : ScriptHasOneWorld
one_world edition operations script events w v E keeps playable =
    world_one operations E keeps playable events

pub one_solo : ScriptHasOneSolo
one_solo edition operations script w v E keeps playable = solo_one operations E keeps playable

pub one_transcript : ScriptHasOneTranscript
one_transcript edition operations script text other E keeps playable =
    transcript_one operations E keeps playable

pub some_world : ScriptHasWorld
some_world edition operations script events E keeps playable =
    world_exists operations E keeps playable events

pub some_transcript : ScriptHasTranscript
some_transcript edition operations script E keeps playable =
    transcript_exists operations E keeps playable

-- **a schedule is a list of events**
pub solo_world : SoloIsWorld
solo_world edition operations script w a = (
  rest a.scheduled,
  record {
    prologue = a.is_world.prologue;
    played = a.is_world.played;
    runs = runs_both edition operations (map (λ place. place + 1) script.schedule) (rest a.scheduled) (open_sessions script a.is_world.prologue) a.scheduled w a.is_world.runs a.runs;
  },
)

-- **histories are legal**
pub legal_history : HistoryIsLegal
legal_history edition operations script events w E keeps playable a =
    (world_sound operations E keeps playable a).legal

-- **the transcript of a schedule is fair**
pub solo_fair : SoloIsFair
solo_fair edition operations script text a =
    let (later, is_world) = solo_world edition operations script a.world a.solo in
    record {
      events = map (λ place. place + 1) script.schedule ++ later;
      world = a.world;
      is_world = is_world;
      none_left = (solo_finished edition operations script a.world a.solo).none_left;
      is_text = a.is_text;
    }
