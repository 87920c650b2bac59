-- What lines say at their places.
use Rattle.std.proofs.Common.{◌≡◌, Bool, true, false, ℕ, ◌+◌, ◌<◌, Ok, Err, List, [], ◌∷◌, ◌++◌, length, sym, refl, ◌∙◌, subst, inl, inr, arith, eqb, cond}
use Rattle.std.specs.Prelude.{◌≢◌, ◌==◌}
use Rattle.std.specs.List.{onto_first, join_with_byte}
use Rattle.std.proofs.lemmas.Bool.{eq-eqb, ne_eqb, cond-true, cond-false}
use Rattle.alg_model.specs.Lattices.{Row}
use Rattle.lat_language.specs.CanonicalText.{line_of}
use Rattle.lat_audit.specs.Readings.{ended_lines, Image, Content, Place, Header, FieldCount, Field, MapCount, Map, End, Behind, field_place, map_place, LeadsTo, Reading}
use Rattle.lat_audit.specs.PrivateReadings.{Lacks, ended, IsFirstLine, Continues, Stops}
use Rattle.lat_audit.specs.declared.faults.Fault.{Fault}
use Rattle.lat_audit.specs.declared.faults.Fault.TheVariants as fault
use Rattle.lat_audit.proofs.LineWords.{not_cut, unended}

-- ---- lines of a form end with a line feed
words_ended : (words : List (List ℕ)) → (l : List ℕ) × (line_of words ≡ ended l)
unfolding line_of
words_ended words = (join_with_byte 32 words, refl)

line_ended : (line : List ℕ) (words : List (List ℕ)) → line ≡ line_of words → (l : List ℕ) × (line ≡ ended l)
line_ended line words e = let w = words_ended words in (w.0, e ∙ w.1)

leads_ended : (place : Place) (line : List ℕ) (next : Place) → LeadsTo place line next
    → (l : List ℕ) × (line ≡ ended l)
leads_ended Header line next h = line_ended line _ h.0
leads_ended FieldCount line next h = line_ended line _ h.1
leads_ended (Field count rows) line next h = line_ended line _ h.1
leads_ended (MapCount rows) line next h = line_ended line _ h.1
leads_ended (Map rows count images) line next h = line_ended line _ h.1
leads_ended (End c) line next h = line_ended line _ h.0
leads_ended (Behind c) line next h = absurd h

-- ---- a line more, and a first bad line
abbrev pub IsAsking : Place → Type 0
IsAsking place = (c : Content) → place ≢ Behind c

pub goes_on : (place : Place) (n : ℕ) (text line rest : List ℕ) (next : Place)
    → IsFirstLine text line rest → LeadsTo place (ended line) next
    → Continues place n text next (n + 1) rest
goes_on place n text line rest next first leads = λ read h.
    subst (λ ls. Reading place n ls read) (sym first) (inl (next, leads, h))

stops_list : (place : Place) (n : ℕ) (lines : List (List ℕ)) → IsAsking place
    → ((line : List ℕ) (more : List (List ℕ)) (next : Place) → lines ≡ line ∷ more → LeadsTo place line next → ⊥)
    → Reading place n lines (Err n)
stops_list place n [] asks none = inr (asks, refl)
stops_list place n (line ∷ more) asks none = inr (λ next h. none line more next refl h, refl)

no_feed : (place : Place) (text : List ℕ) → Lacks 10 text → (line : List ℕ) (more : List (List ℕ)) (next : Place)
    → ended_lines text ≡ line ∷ more → LeadsTo place line next → ⊥
no_feed place [] none line more next e h = cc
no_feed place (b ∷ text) none line more next e h =
    let whole : (b ∷ text) ∷ [] ≡ line ∷ more = sym (unended b text none) ∙ e in
    let same : b ∷ text ≡ line = cc in
    let l = leads_ended place line next h in
    not_cut 10 l.0 [] (subst (Lacks 10) (same ∙ l.1) none)

pub stops_unended : (place : Place) (n : ℕ) (text : List ℕ) → IsAsking place → Lacks 10 text
    → Reading place n (ended_lines text) (Err n)
stops_unended place n text asks none = stops_list place n (ended_lines text) asks (no_feed place text none)

pub stops_bad : (place : Place) (n : ℕ) (text line rest : List ℕ) → IsAsking place
    → IsFirstLine text line rest → ((next : Place) → LeadsTo place (ended line) next → ⊥)
    → Reading place n (ended_lines text) (Err n)
stops_bad place n text line rest asks first none =
    stops_list place n (ended_lines text) asks
    (λ other more next e h.
    let whole : other ∷ more ≡ ended line ∷ ended_lines rest = sym e ∙ first in
    let same : other ≡ ended line = cc in
    none next (subst (λ (l : List ℕ). LeadsTo place l next) same h))

-- a text behind the last line
first_of : (b : ℕ) (text : List ℕ) → (line : List ℕ) × (more : List (List ℕ)) × (ended_lines (b ∷ text) ≡ line ∷ more)
first_of b text = by_test (b == 10) (ended_lines text) where
  by_test : (t : Bool) (ls : List (List ℕ)) → (line : List ℕ) × (more : List (List ℕ))
      × (cond t ((b ∷ []) ∷ ls) (onto_first b ls) ≡ line ∷ more)
  by_test true ls = (b ∷ [], ls, refl)
  by_test false [] = (b ∷ [], [], refl)
  by_test false (l ∷ ls) = (b ∷ l, ls, refl)

pub stops_behind : (c : Content) (n : ℕ) (text : List ℕ) → 0 < length text
    → Reading (Behind c) n (ended_lines text) (Err n)
stops_behind c n [] some = absurd (omega arith)
stops_behind c n (b ∷ text) some =
    let first = first_of b text in
    subst (λ ls. Reading (Behind c) n ls (Err n)) (sym first.2) (inr (λ next h. h, refl))

pub reads_behind : (c : Content) (n : ℕ) (text : List ℕ) → text ≡ []
    → Reading (Behind c) n (ended_lines text) (Ok c)
reads_behind c n text none = subst (λ t. Reading (Behind c) n (ended_lines t) (Ok c)) (sym none) (inl (c, refl, refl))

-- ---- one after the other
pub then_on : (p q r : Place) (m n k : ℕ) (a b c : List ℕ) → Continues p m a q n b
    → Continues q n b r k c → Continues p m a r k c
then_on p q r m n k a b c f g = λ read h. f read (g read h)

pub then_stops : (p q : Place) (m n : ℕ) (a b : List ℕ) (f : Fault) → Continues p m a q n b
    → Stops q n b f → Stops p m a f
then_stops p q m n a b (fault.Text line) on h = on (Err line) h
then_stops p q m n a b (fault.Field i) on h = h
then_stops p q m n a b (fault.Map i j) on h = h
then_stops p q m n a b (fault.Rule r i j k) on h = h
then_stops p q m n a b fault.NoMemory on h = h

-- ---- the places of fields and of maps
pub field_asked : (count : ℕ) (rows : List Row) → length rows < count
    → field_place count rows ≡ Field count rows
field_asked count rows l =
    cond-false (eqb (length rows) count) (MapCount rows) (Field count rows) (ne_eqb (length rows) count (λ e. omega (arith, e, l)))

pub fields_done : (count : ℕ) (rows : List Row) → length rows ≡ count
    → field_place count rows ≡ MapCount rows
fields_done count rows e =
    cond-true (eqb (length rows) count) (MapCount rows) (Field count rows) (eq-eqb (length rows) count e)

pub map_asked : (rows : List Row) (count : ℕ) (images : List Image) → length images < count
    → map_place rows count images ≡ Map rows count images
map_asked rows count images l =
    cond-false (eqb (length images) count) (End (record { rows = rows; images = images })) (Map rows count images)
    (ne_eqb (length images) count (λ e. omega (arith, e, l)))

pub maps_done : (rows : List Row) (count : ℕ) (images : List Image) → length images ≡ count
    → map_place rows count images ≡ End (record { rows = rows; images = images })
maps_done rows count images e =
    cond-true (eqb (length images) count) (End (record { rows = rows; images = images })) (Map rows count images)
    (eq-eqb (length images) count e)

-- the places of the loops
pub begins_field : (count n : ℕ) (rows : List Row) (text : List ℕ) (q : Place) (m : ℕ) (rest : List ℕ)
    → length rows < count → Continues (Field count rows) n text q m rest
    → Continues (field_place count rows) n text q m rest
begins_field count n rows text q m rest l on =
    subst (λ (p : Place). Continues p n text q m rest) (sym (field_asked count rows l)) on

pub begins_map : (rows : List Row) (count n : ℕ) (images : List Image) (text : List ℕ) (q : Place) (m : ℕ) (rest : List ℕ)
    → length images < count → Continues (Map rows count images) n text q m rest
    → Continues (map_place rows count images) n text q m rest
begins_map rows count n images text q m rest l on =
    subst (λ (p : Place). Continues p n text q m rest) (sym (map_asked rows count images l)) on

-- ---- one more field, and one more map
module _ (count number : ℕ) (rows slice : List Row) (text mid : List ℕ) (counted : length rows ≡ number)
    (few : number < count) (same : slice ≡ rows)
    (on : Continues (field_place count []) 3 text (field_place count rows) (number + 3) mid) where
  asked : field_place count rows ≡ Field count rows
  asked = field_asked count rows (omega (arith, counted, few))

  pub more_rows : (new : List Row) (row : Row) (rest : List ℕ) → new ≡ rows ++ row ∷ []
      → ((k : ℕ) → Continues (Field k slice) (number + 3) mid (field_place k (slice ++ row ∷ [])) (number + 3 + 1) rest)
      → Continues (field_place count []) 3 text (field_place count new) (number + 1 + 3) rest
  more_rows new row rest e next =
      let here : Continues (Field count rows) (number + 3) mid (field_place count (rows ++ row ∷ [])) (number + 3 + 1) rest =
      subst (λ (s : List Row). Continues (Field count s) (number + 3) mid (field_place count (s ++ row ∷ [])) (number + 3 + 1) rest) same (next count) in
      let began : Continues (field_place count rows) (number + 3) mid (field_place count (rows ++ row ∷ [])) (number + 3 + 1) rest =
      subst (λ (p : Place). Continues p (number + 3) mid (field_place count (rows ++ row ∷ [])) (number + 3 + 1) rest) (sym asked) here in
      let pushed : Continues (field_place count rows) (number + 3) mid (field_place count new) (number + 3 + 1) rest =
      subst (λ (q : List Row). Continues (field_place count rows) (number + 3) mid (field_place count q) (number + 3 + 1) rest) (sym e) began in
      let numbers : number + 3 + 1 ≡ number + 1 + 3 = omega arith in
      then_on (field_place count []) (field_place count rows) (field_place count new) 3 (number + 3) (number + 1 + 3) text mid rest on
      (subst (λ (k : ℕ). Continues (field_place count rows) (number + 3) mid (field_place count new) k rest) numbers pushed)

  pub no_more_rows : (f : Fault) → ((k : ℕ) → Stops (Field k slice) (number + 3) mid f)
      → Stops (field_place count []) 3 text f
  no_more_rows f stop =
      let here : Stops (Field count rows) (number + 3) mid f =
      subst (λ (s : List Row). Stops (Field count s) (number + 3) mid f) same (stop count) in
      then_stops (field_place count []) (field_place count rows) 3 (number + 3) text mid f on
      (subst (λ (p : Place). Stops p (number + 3) mid f) (sym asked) here)

module _ (rows : List Row) (count number line : ℕ) (images slice : List Image) (text mid : List ℕ)
    (counted : length images ≡ number) (few : number < count) (same : slice ≡ images)
    (at : line ≡ length rows + number + 4)
    (on : Continues (map_place rows count []) (length rows + 4) text (map_place rows count images) (length rows + number + 4) mid) where
  asked_map : map_place rows count images ≡ Map rows count images
  asked_map = map_asked rows count images (omega (arith, counted, few))

  pub more_images : (new : List Image) (e : Image) (rest : List ℕ) → new ≡ images ++ e ∷ []
      → ((k : ℕ) → Continues (Map rows k slice) line mid (map_place rows k (slice ++ e ∷ [])) (line + 1) rest)
      → Continues (map_place rows count []) (length rows + 4) text (map_place rows count new) (length rows + (number + 1) + 4) rest
  more_images new e rest is next =
      let here : Continues (Map rows count images) line mid (map_place rows count (images ++ e ∷ [])) (line + 1) rest =
      subst (λ (s : List Image). Continues (Map rows count s) line mid (map_place rows count (s ++ e ∷ [])) (line + 1) rest) same (next count) in
      let began : Continues (map_place rows count images) line mid (map_place rows count (images ++ e ∷ [])) (line + 1) rest =
      subst (λ (p : Place). Continues p line mid (map_place rows count (images ++ e ∷ [])) (line + 1) rest) (sym asked_map) here in
      let pushed : Continues (map_place rows count images) line mid (map_place rows count new) (line + 1) rest =
      subst (λ (q : List Image). Continues (map_place rows count images) line mid (map_place rows count q) (line + 1) rest) (sym is) began in
      let numbers : line + 1 ≡ length rows + (number + 1) + 4 = omega (arith, at) in
      let placed : Continues (map_place rows count images) line mid (map_place rows count new) (length rows + (number + 1) + 4) rest =
      subst (λ (k : ℕ). Continues (map_place rows count images) line mid (map_place rows count new) k rest) numbers pushed in
      then_on (map_place rows count []) (map_place rows count images) (map_place rows count new) (length rows + 4) (length rows + number + 4) (length rows + (number + 1) + 4) text mid rest on
      (subst (λ (k : ℕ). Continues (map_place rows count images) k mid (map_place rows count new) (length rows + (number + 1) + 4) rest) at placed)

  pub no_more_images : (f : Fault) → ((k : ℕ) → Stops (Map rows k slice) line mid f)
      → Stops (map_place rows count []) (length rows + 4) text f
  no_more_images f stop =
      let here : Stops (Map rows count images) line mid f =
      subst (λ (s : List Image). Stops (Map rows count s) line mid f) same (stop count) in
      let placed : Stops (Map rows count images) (length rows + number + 4) mid f =
      subst (λ (k : ℕ). Stops (Map rows count images) k mid f) at here in
      then_stops (map_place rows count []) (map_place rows count images) (length rows + 4) (length rows + number + 4) text mid f on
      (subst (λ (p : Place). Stops p (length rows + number + 4) mid f) (sym asked_map) placed)

-- ---- all lines
-- the header, the number of fields and the fields
pub read_to_maps : (text one two three : List ℕ) (n : ℕ) (rows : List Row)
    → Continues Header 1 text FieldCount 2 one
    → Continues FieldCount 2 one (field_place n []) 3 two
    → Continues (field_place n []) 3 two (MapCount rows) (n + 3) three
    → Continues Header 1 text (MapCount rows) (n + 3) three
read_to_maps text one two three n rows f g h = λ read r. f read (g read (h read r))

-- and the number of maps and the maps
pub read_to_end : (text three four five : List ℕ) (n m : ℕ) (rows slice : List Row) (images : List Image)
    → length rows ≡ n → slice ≡ rows
    → Continues Header 1 text (MapCount rows) (n + 3) three
    → ((rs : List Row) → Continues (MapCount rs) (n + 3) three (map_place rs m []) (n + 3 + 1) four)
    → Continues (map_place slice m []) (length slice + 4) four (End (record { rows = slice; images = images })) (length slice + m + 4) five
    → Continues Header 1 text (End (record { rows = rows; images = images })) (n + m + 4) five
read_to_end text three four five n m rows slice images counted same f g h =
    let moved : Continues (map_place rows m []) (length rows + 4) four (End (record { rows = rows; images = images })) (length rows + m + 4) five =
    subst (λ (s : List Row). Continues (map_place s m []) (length s + 4) four (End (record { rows = s; images = images })) (length s + m + 4) five) same h in
    let first : length rows + 4 ≡ n + 3 + 1 = omega (arith, counted) in
    let last : length rows + m + 4 ≡ n + m + 4 = omega (arith, counted) in
    let begun : Continues (map_place rows m []) (n + 3 + 1) four (End (record { rows = rows; images = images })) (length rows + m + 4) five =
    subst (λ (k : ℕ). Continues (map_place rows m []) k four (End (record { rows = rows; images = images })) (length rows + m + 4) five) first moved in
    let done : Continues (map_place rows m []) (n + 3 + 1) four (End (record { rows = rows; images = images })) (n + m + 4) five =
    subst (λ (k : ℕ). Continues (map_place rows m []) (n + 3 + 1) four (End (record { rows = rows; images = images })) k five) last begun in
    λ read r. f read (g rows read (done read r))

-- a line behind the last one
pub read_too_far : (text five six : List ℕ) (n : ℕ) (c : Content)
    → Continues Header 1 text (End c) n five → ((d : Content) → Continues (End d) n five (Behind d) (n + 1) six)
    → 0 < length six → Reading Header 1 (ended_lines text) (Err (n + 1))
read_too_far text five six n c f g some = f (Err (n + 1)) (g c (Err (n + 1)) (stops_behind c (n + 1) six some))
