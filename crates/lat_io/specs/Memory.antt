-- Sources and sinks over memory, as their callers see them, and what one call makes of them.
--     Feed, Store         a source and a sink over memory
--     gave, took          after a call that gave or took bytes
--     missed, refused     after a call that failed
use Rattle.std.specs.Prelude.{ℕ, List, [], ◌++◌, drop}
use Rattle.lat_io.specs.Faults.{one_more}

-- a source over memory
pub record Feed : Type 0 where
  -- the bytes that are left
  pub left : List ℕ
  -- the most bytes that one call gives
  pub piece : ℕ
  -- the numbers of the calls that fail; the first call has the number 1
  pub fails : List ℕ
  -- the number of the next call; no call that fails has the last value, at which it stays
  pub call : ℕ
  -- how many calls failed
  pub faults : ℕ

-- a source that has given nothing yet
abbrev pub new_feed : List ℕ → ℕ → List ℕ → Feed
new_feed bytes piece fails = record {
  left = bytes;
  piece = piece;
  fails = fails;
  call = 1;
  faults = 0;
}

-- the source after a call that gave `count` bytes
abbrev pub gave : Feed → ℕ → Feed
gave feed count = record feed { left = drop count feed.left; call = one_more feed.call }

-- the source after a call that failed
abbrev pub missed : Feed → Feed
missed feed = record feed { call = one_more feed.call; faults = one_more feed.faults }

-- a sink over memory
pub record Store : Type 0 where
  -- the bytes that it holds
  pub held : List ℕ
  -- the most bytes that it can hold
  pub room : ℕ
  -- the most bytes that one call takes
  pub piece : ℕ
  -- the numbers of the calls that fail even with room left; the first call has the number 1
  pub fails : List ℕ
  -- the number of the next call; no call in `fails` has the last value, at which it stays
  pub call : ℕ
  -- how many calls failed
  pub faults : ℕ

-- a sink that holds nothing yet
abbrev pub new_store : ℕ → ℕ → List ℕ → Store
new_store room piece fails = record {
  held = [];
  room = room;
  piece = piece;
  fails = fails;
  call = 1;
  faults = 0;
}

-- the sink after a call that took these bytes
abbrev pub took : Store → List ℕ → Store
took store bytes = record store { held = store.held ++ bytes; call = one_more store.call }

-- the sink after a call that failed
abbrev pub refused : Store → Store
refused store = record store { call = one_more store.call; faults = one_more store.faults }
