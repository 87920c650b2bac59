-- Facts on texts that are appended.
use Rattle.std.proofs.Common.{◌≡◌, ℕ, zero, suc, ◌+◌, ◌-◌, ◌*◌, ◌<◌, min, List, [], ◌∷◌, ◌++◌, length, get_or, take, drop, map, sym, refl, ap, ◌∙◌, arith, append_assoc, length-drop}
use Rattle.std.specs.Prelude.{decimal, codes, flat_map}
use Rattle.std.specs.Fork.{slice_chunk}
use Rattle.std.specs.List.{join_with_byte, range_with_len}
use Rattle.std.proofs.lemmas.Grind.{flat_map-append}
use Rattle.std.proofs.lemmas.List.FromFn.{map-range_with_len_more}
use Rattle.std.proofs.lemmas.List.{append-nil, take_at, map_more, length-map, length-take-le, take-map, drop-map, take_min, flat_map_more}
use Rattle.lat_language.specs.declared.scripts.Script.{Script}
use Rattle.lat_language.specs.Commands.{digits_text, command_words}
use Rattle.lat_language.specs.Grammar.{header_words}
use Rattle.lat_language.specs.CanonicalText.{line_of, scheduled_names, schedule_lines, session_lines, canonical_text}
use Rattle.lat_language.specs.Texts.{values_text, summary_text}
use Rattle.lat_language.specs.PrivateAppending.{Extends, separator}

-- an equal text is one with nothing appended
pub extends_same : (old new : List ℕ) → new ≡ old → Extends old new
extends_same old new e = record { part = []; is = e ∙ sym (append-nil old) }

-- a text appended
pub extends_text : (old mid new text : List ℕ) → mid ≡ old ++ text → new ≡ mid → Extends old new
extends_text old mid new text e same = record { part = text; is = same ∙ e }

-- a text appended, and then something more
pub extends_after : (old mid new text : List ℕ) → mid ≡ old ++ text → Extends mid new
    → Extends old new
extends_after old mid new text e more = record { part = text ++ more.part; is = more.is ∙ ap (λ m. m ++ more.part) e ∙ append_assoc old text more.part }

-- what something was appended to is the beginning of the new text
pub begins_with : (old new : List ℕ) → Extends old new → take (length old) new ≡ old
begins_with old new more = ap (take (length old)) more.is ∙ take_at old more.part (length old) refl

-- one more item at the end of a list
join_push : (byte : ℕ) (xs : List (List ℕ)) (x : List ℕ)
    → join_with_byte byte (xs ++ x ∷ [])
    ≡ join_with_byte byte xs ++ (separator byte (length xs) ++ x)
join_push byte [] x = refl
join_push byte (y ∷ []) x = refl
join_push byte (y ∷ z ∷ xs) x =
    ap (λ r. y ++ (byte ∷ r)) (join_push byte (z ∷ xs) x)
    ∙ sym (append_assoc y (byte ∷ join_with_byte byte (z ∷ xs)) (separator byte (length (z ∷ xs)) ++ x))

-- one more item of a list of texts
join_more : {A : Type 0} (byte : ℕ) (text : A → List ℕ) (xs : List A) (i : ℕ) (d : A)
    → i < length xs
    → join_with_byte byte (map text (take (i + 1) xs))
    ≡ join_with_byte byte (map text (take i xs)) ++ (separator byte i ++ text (get_or xs i d))
join_more byte text xs i d l =
    ap (join_with_byte byte) (map_more text xs i d l)
    ∙ join_push byte (map text (take i xs)) (text (get_or xs i d))
    ∙ ap (λ k. join_with_byte byte (map text (take i xs)) ++ (separator byte k ++ text (get_or xs i d))) (length-map (take i xs) text ∙ length-take-le i xs (omega arith))

-- the text of one number more of a list
pub digits_text_more : (xs : List ℕ) (i : ℕ) → i < length xs
    → digits_text (take (i + 1) xs)
    ≡ digits_text (take i xs) ++ (separator 44 i ++ decimal (get_or xs i 0))
unfolding digits_text
digits_text_more xs i l = join_more 44 decimal xs i 0 l

-- the text of one list more
pub values_text_more : (xs : List (List ℕ)) (i : ℕ) (d : List ℕ) → i < length xs
    → values_text (take (i + 1) xs)
    ≡ values_text (take i xs) ++ (separator 59 i ++ digits_text (get_or xs i d))
unfolding values_text
values_text_more xs i d l = join_more 59 digits_text xs i d l

-- the words of a line, with one more
pub words_more : {A : Type 0} (text : A → List ℕ) (words : List A) (i : ℕ) (d : A)
    → i < length words
    → join_with_byte 32 (map text (take (i + 1) words))
    ≡ join_with_byte 32 (map text (take i words)) ++ (separator 32 i ++ text (get_or words i d))
words_more text words i d l = join_more 32 text words i d l

-- the words of a line behind its first one, with one more
pub behind_more : {A : Type 0} (first : List ℕ) (text : A → List ℕ) (words : List A) (i : ℕ) (d : A)
    → i < length words
    → join_with_byte 32 (first ∷ map text (take (i + 1) words))
    ≡ join_with_byte 32 (first ∷ map text (take i words)) ++ ((32 ∷ []) ++ text (get_or words i d))
behind_more first text words i d l =
    ap (λ more. join_with_byte 32 (first ∷ more)) (map_more text words i d l)
    ∙ join_push 32 (first ∷ map text (take i words)) (text (get_or words i d))

-- the words of a line, ended by a line feed
pub line_ended : (old mid : List ℕ) (so_far words : List (List ℕ)) → so_far ≡ words
    → mid ≡ old ++ join_with_byte 32 so_far → mid ++ 10 ∷ [] ≡ old ++ line_of words
unfolding line_of
line_ended old mid so_far words all e =
    ap (λ t. t ++ 10 ∷ []) (e ∙ ap (λ w. old ++ join_with_byte 32 w) all)
    ∙ append_assoc old (join_with_byte 32 words) (10 ∷ [])

-- a part of some places is that of their names
pub names_part : (name : ℕ → List ℕ) (places : List ℕ) (size n start end : ℕ) → start ≡ n * size
    → end ≡ min (length places) (start + size)
    → map name (take (end - start) (drop start places)) ≡ slice_chunk (map name places) size n
names_part name places size n start end from to =
    let least : end - start ≡ min size (length (drop start places)) = omega (arith, length-drop start places) in
    ap (λ k. map name (take k (drop start places))) least
    ∙ ap (map name) (take_min size (drop start places))
    ∙ sym (take-map name size (drop start places))
    ∙ ap (take size) (sym (drop-map name start places))
    ∙ ap (λ k. take size (drop k (map name places))) from

-- one line more of a schedule
pub schedule_more : (line : ℕ → List (List ℕ)) (n : ℕ) (words : List (List ℕ))
    (old mid new : List ℕ)
    → words ≡ line n
    → mid ≡ old ++ flat_map line_of (map line (range_with_len 0 n)) → new ≡ mid ++ line_of words
    → new ≡ old ++ flat_map line_of (map line (range_with_len 0 (n + 1)))
schedule_more line n words old mid new is so_far e =
    e ∙ ap (λ w. mid ++ line_of w) is ∙ ap (λ t. t ++ line_of (line n)) so_far
    ∙ flat_map_more line_of old (map line (range_with_len 0 n)) (line n)
    ∙ ap (λ lines. old ++ flat_map line_of lines) (sym (map-range_with_len_more line 0 n n (omega arith)))

-- the parts of the canonical text
pub canonical_made : (script : Script) (header prologue sessions all : List ℕ)
    → header ≡ line_of header_words
    → prologue ≡ header ++ flat_map line_of (map command_words script.prologue)
    → sessions ≡ prologue ++ flat_map line_of (flat_map session_lines script.sessions)
    → all ≡ sessions ++ flat_map line_of (schedule_lines (scheduled_names script))
    → all ≡ canonical_text script
unfolding canonical_text
canonical_made script header prologue sessions all a b c d =
    let commands : List (List (List ℕ)) = map command_words script.prologue in
    let more : List (List (List ℕ)) = flat_map session_lines script.sessions in
    let last : List (List (List ℕ)) = schedule_lines (scheduled_names script) in
    d ∙ ap (λ t. t ++ flat_map line_of last) (c ∙ ap (λ t. t ++ flat_map line_of more) (b ∙ ap (λ t. t ++ flat_map line_of commands) a))
    ∙ append_assoc (line_of header_words ++ flat_map line_of commands) (flat_map line_of more) (flat_map line_of last)
    ∙ append_assoc (line_of header_words) (flat_map line_of commands) (flat_map line_of more ++ flat_map line_of last)
    ∙ ap (λ t. line_of header_words ++ (flat_map line_of commands ++ t)) (sym (flat_map-append line_of more last))
    ∙ ap (λ t. line_of header_words ++ t) (sym (flat_map-append line_of commands (more ++ last)))

-- nothing has no text
pub digits_text_none : digits_text [] ≡ []
unfolding digits_text
digits_text_none = refl

pub values_text_none : values_text [] ≡ []
unfolding values_text
values_text_none = refl

-- a separator and an item appended to what is there
pub twice_more : (old done separator number begun between all : List ℕ) → begun ≡ old ++ done
    → between ≡ begun ++ separator → all ≡ between ++ number
    → all ≡ old ++ (done ++ (separator ++ number))
twice_more old done separator number begun between all a b c =
    c ∙ ap (λ t. t ++ number) (b ∙ ap (λ t. t ++ separator) a)
    ∙ append_assoc (old ++ done) separator number ∙ append_assoc old done (separator ++ number)

-- nothing stands before the first item
pub separator_first : (byte place : ℕ) → place ≡ 0 → separator byte place ≡ []
separator_first byte place e = ap (separator byte) e

-- the byte stands before each other item
pub separator_next : (byte place : ℕ) → (place ≡ 0 → ⊥) → separator byte place ≡ byte ∷ []
separator_next byte zero h = absurd (h refl)
separator_next byte (suc place) h = refl

-- texts made of pieces
pub summary_pieces : (fields maps changes : ℕ)
    → codes "summary fields " ++ (decimal fields ++ (codes " maps " ++ (decimal maps
    ++ (codes " changes " ++ (decimal changes ++ (codes "\n" ++ []))))))
    ≡ summary_text fields maps changes
summary_pieces fields maps changes = simp (append_assoc, append-nil)

pub embedded_pieces : (image : List ℕ) (made linked : ℕ)
    → codes "ok embed " ++ (digits_text image ++ (codes " made " ++ (decimal made
    ++ (codes " linked " ++ (decimal linked ++ [])))))
    ≡ codes "ok embed " ++ digits_text image ++ codes " made " ++ decimal made ++ codes " linked "
    ++ decimal linked
embedded_pieces image made linked = simp (append_assoc, append-nil)
