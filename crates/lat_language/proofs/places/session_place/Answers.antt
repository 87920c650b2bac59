-- The first session whose name is the bytes.
use Rattle.std.proofs.Common.{rules, tests}
use Rattle.std.specs.Str.{bytes_eq}
use Rattle.std.proofs.lemmas.Iterator.{YieldsList-from_slice}
use Rattle.std.proofs.lemmas.Iterator.Search.{position_from_yields_List}
use Rattle.lat_language.specs.declared.scripts.SessionScript.{SessionScript}
use Rattle.lat_language.proofs.SessionPlaces.{place_read}
use Rattle.lat_language.proofs.places.session_place.Goals as goal

pub returns : goal.returns
returns c =
    place_read c.args.sessions.now c.args.name.now c.position.result
    (position_from_yields_List (λ (s : SessionScript). bytes_eq s.name c.args.name.now) _ _ c.position.result c.position.ensures.ran
    (YieldsList-from_slice _ c.iter.ensures.rest) (λ x b q k. search (rules, tests)))
