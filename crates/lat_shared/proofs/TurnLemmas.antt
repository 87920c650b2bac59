-- What a session's pass is before and after a turn.
use Rattle.std.proofs.Common.{◌≡◌, ℕ, ◌+◌, ◌-◌, ◌^◌, ◌<◌, ◌≤◌, List, [], ◌∷◌, ◌++◌, length, map, take, drop, cond, refl, sym, ap, ap₂, ◌∙◌, subst, arith, eq-eqb, length-append, take-append-drop, take_all, append-nil, append_assoc, Result, Ok, Err}
use Rattle.std.specs.Prelude.{Contains, IfOk, IfErr}
use Rattle.std.proofs.lemmas.List.{take-append-le, append_cancel_left}
use Rattle.std.proofs.lemmas.List.Elements.{filter-append}
use Rattle.alg_model.specs.Lattices.{Lattice}
use Rattle.lat_core.specs.declared.requests.Request.{Request}
use Rattle.lat_core.specs.declared.replies.Entry.{Entry}
use Rattle.lat_core.specs.declared.replies.ChangeFault.{ChangeFault}
use Rattle.lat_core.specs.declared.replies.Placed.{Placed}
use Rattle.lat_core.specs.declared.replies.ChangeFault.TheVariants.{HistoryFull, NoMemory}
use Rattle.lat_core.specs.Histories.{IsAfter, Knowledge, IsKnowledge, IsSameSession, IsPlaced, IsUnplaced, IsRefusedBy, entries_of}
use Rattle.lat_core.proofs.HistoryLaws.{history_one}
use Rattle.lat_history.specs.Books.{History, IsHistory, with_entry}
use Rattle.lat_history.specs.declared.played.Played.{Played}
use Rattle.lat_history.specs.Plays.{IsPlayed, IsBookFault}
use Rattle.lat_history.proofs.BookLemmas.{entry_of}
use Rattle.lat_gate.specs.History.{BeginsWith, of_number}
use Rattle.lat_gate.specs.Seats.{Known, published, informed}
use Rattle.lat_gate.proofs.Histories.{begins_still}
use Rattle.lat_gate.proofs.Holders.{contains_head}
use Rattle.lat_shared.specs.Sharing.{SharedPass, knowledge_of, told_history}
use Rattle.lat_shared.specs.PrivateSettings.{setting_of, edition_in, room_in, history_of, IsLegalUnder}
use Rattle.lat_shared.specs.PrivatePasses.{Keeps, shared_pass, sharing_in}
use Rattle.lat_shared.specs.PrivateTurns.{Found, IsTurnPlayed, IsTurnLost}

entries_of-append : (n : ℕ) (xs ys : List Entry)
    → entries_of n (xs ++ ys) ≡ entries_of n xs ++ entries_of n ys
entries_of-append n xs ys = filter-append _ xs ys

-- an entry of the session itself
entries_of_own : (n : ℕ) (request : Request) (played : Played)
    → entries_of n (entry_of n request played.placed.reply ∷ [])
    ≡ entry_of n request played.placed.reply ∷ []
entries_of_own n request played =
    let e = entry_of n request played.placed.reply in
    ap (λ t. cond t (e ∷ []) []) (eq-eqb n n refl)

-- entries behind those that have all entries of a number have none of it
pub none_behind : (n : ℕ) (log front behind : List Entry) → log ≡ front ++ behind
    → entries_of n log ≡ entries_of n front → entries_of n behind ≡ []
none_behind n log front behind e all = append_cancel_left (entries_of n front) (entries_of n behind) []
    (sym (entries_of-append n front behind) ∙ ap (entries_of n) (sym e) ∙ all ∙ sym (append-nil (entries_of n front)))

-- a history is the one with its setting and its entries
pub history_under : (h : History) (setting : List ℕ) (log : List Entry) → setting_of h ≡ setting
    → h.entries ≡ log → IsLegalUnder setting log → IsHistory h
history_under h setting log s e legal =
    subst (λ (es : List Entry). IsLegalUnder (setting_of h) es) (sym e)
    (subst (λ (s : List ℕ). IsLegalUnder s log) (sym s) legal)

-- and back
pub under_setting : (h : History) (setting : List ℕ) → setting_of h ≡ setting → IsHistory h
    → IsLegalUnder setting h.entries
under_setting h setting s k = subst (λ (s : List ℕ). IsLegalUnder s h.entries) s k

-- **what a session finds when its turn comes**
pub found : (k : Known Entry) (n : ℕ) (h : History) (log : List Entry) → setting_of h ≡ k.setting
    → h.entries ≡ log → BeginsWith log k.seen → k.own ≡ (n, entries_of n k.seen) ∷ []
    → ((m : ℕ) (mine : List Entry) → Contains k.own (m, mine)
    → of_number (λ (e : Entry). e.session) m log ≡ mine)
    → IsLegalUnder k.setting log → Found k n h
found k n h log set same begins own all legal =
    let mine : ℕ × List Entry = (n, entries_of n k.seen) in
    let has : Contains k.own mine =
    subst (λ (l : List (ℕ × List Entry)). Contains l mine) (sym own) (contains_head mine []) in
    record {
      is_history = history_under h k.setting log set same legal;
      setting = set;
      others = begins.0;
      told = same ∙ begins.1;
      none_own = none_behind n log k.seen begins.0 begins.1 (all n (entries_of n k.seen) has);
    }

-- what a session was told, and what it sees, is a session's knowledge
pub keeps_known : (k : Known Entry) (n front : ℕ) (view : Lattice) → Keeps k n front view
    → IsKnowledge (knowledge_of (shared_pass k n front))
keeps_known k n front view keeps = record {
  later = drop front k.seen;
  seen_first = sym (take-append-drop front k.seen);
  legal = keeps.legal.legal;
  seen_legal = (view, keeps.view);
}

-- the view is the lattice after what is seen
pub is_view : (k : Known Entry) (n front : ℕ) (view : Lattice) (pass : SharedPass)
    → Keeps k n front view → shared_pass k n front ≡ pass → (L : Lattice)
    → IsAfter pass.sharing.edition pass.seen L → L ≡ view
is_view k n front view pass keeps e L after =
    history_one (edition_in k.setting) (take front k.seen) L view keeps.legal.of_edition
    (subst (λ (p : SharedPass). IsAfter p.sharing.edition p.seen L) (sym e) after) keeps.view

-- a change that was entered
module _ (k : Known Entry) (n front : ℕ) (view : Lattice) (request : Request) (k' : Known Entry)
    (played : Played) (keeps : Keeps k n front view) (t : IsTurnPlayed k n request k' played) where
  abbrev own_entry : Entry
  own_entry = entry_of n request played.placed.reply

  all_told : t.after.entries ≡ k.seen ++ t.found.others ++ own_entry ∷ []
  all_told = ap (λ (h : History). h.entries) t.is_played.entered
      ∙ ap (λ (l : List Entry). l ++ own_entry ∷ []) t.found.told

  place_is : played.placed.place ≡ length k.seen + length t.found.others
  place_is = omega (arith, t.is_played.at_end, ap length t.found.told, length-append k.seen t.found.others)

  all_length : length t.after.entries ≡ played.placed.place + 1
  all_length = omega (
    arith,
    place_is,
    ap length all_told,
    length-append k.seen t.found.others,
    length-append (k.seen ++ t.found.others) (own_entry ∷ []),
  )

  same_setting : setting_of t.after ≡ k.setting
  same_setting = ap setting_of t.is_played.entered ∙ t.found.setting

  own_told : entries_of n t.after.entries ≡ entries_of n k.seen ++ own_entry ∷ []
  own_told = ap (entries_of n) all_told
      ∙ entries_of-append n (k.seen ++ t.found.others) (own_entry ∷ [])
      ∙ ap₂ (λ (xs ys : List Entry). xs ++ ys)
      (entries_of-append n k.seen t.found.others
      ∙ ap (λ (xs : List Entry). entries_of n k.seen ++ xs) t.found.none_own
      ∙ append-nil (entries_of n k.seen))
      (entries_of_own n request played)

  abbrev later : Known Entry
  later = published k t.after.entries own_entry

  later_keeps : Keeps later n (played.placed.place + 1) played.view
  later_keeps = record {
    own = ap (map (λ (o : ℕ × List Entry). (o.0, o.1 ++ own_entry ∷ []))) keeps.own
        ∙ ap (λ (l : List Entry). (n, l) ∷ []) (sym own_told);
    legal = under_setting t.after k.setting same_setting t.is_history;
    session = keeps.session;
    begins = subst (λ (l : List Entry). BeginsWith l k.opening)
        (sym (all_told ∙ append_assoc k.seen t.found.others (own_entry ∷ [])))
        (begins_still k.seen k.opening (t.found.others ++ own_entry ∷ []) keeps.begins);
    within = omega (arith, all_length);
    view = subst (λ (es : List Entry). IsAfter (edition_in k.setting) es played.view)
        (sym (take_all (played.placed.place + 1) t.after.entries (omega (arith, all_length))))
        (subst (λ (s : List ℕ). IsAfter (edition_in s) t.after.entries played.view) same_setting
        t.is_played.view);
  }

  pub played_keeps : Keeps k' n (played.placed.place + 1) played.view
  played_keeps = subst (λ (j : Known Entry). Keeps j n (played.placed.place + 1) played.view)
      (sym t.pass) later_keeps

  pub played_sharing : sharing_in k' ≡ sharing_in k
  played_sharing = ap sharing_in t.pass

  later_placed : IsPlaced (knowledge_of (shared_pass k n front))
      (knowledge_of (shared_pass later n (played.placed.place + 1))) request played.placed.reply
      played.placed.place
  later_placed = record {
    same = record { number = refl; edition = refl; room = refl; alone = refl };
    others = t.found.others;
    are_others = record { none_own = t.found.none_own; none_alone = λ e. cc };
    told = all_told;
    seen = take_all (played.placed.place + 1) t.after.entries (omega (arith, all_length));
    at_end = place_is;
    below_room = subst (λ (r : ℕ). played.placed.place < r) (ap room_in t.found.setting)
        t.is_played.below_room;
  }

  pub played_placed : IsPlaced (knowledge_of (shared_pass k n front))
      (knowledge_of (shared_pass k' n (played.placed.place + 1))) request played.placed.reply
      played.placed.place
  played_placed = subst (λ (j : Known Entry). IsPlaced (knowledge_of (shared_pass k n front))
      (knowledge_of (shared_pass j n (played.placed.place + 1))) request played.placed.reply
      played.placed.place) (sym t.pass) later_placed

  pub played_small : played.placed.place < 2 ^ 32 - 1
  played_small = omega (arith, t.is_played.below_room, t.found.is_history.room)

-- a change that was not
module _ (k : Known Entry) (n front : ℕ) (view : Lattice) (k' : Known Entry) (fault : ChangeFault)
    (keeps : Keeps k n front view) (t : IsTurnLost k n k' fault) where
  abbrev found_entries : List Entry
  found_entries = t.before.entries

  abbrev told_later : Known Entry
  told_later = informed k found_entries

  seen_still : take front found_entries ≡ take front k.seen
  seen_still = ap (take front) t.found.told ∙ take-append-le front k.seen t.found.others keeps.within

  told_keeps : Keeps told_later n front view
  told_keeps = record {
    own = keeps.own ∙ ap (λ (l : List Entry). (n, l) ∷ [])
        (sym (ap (entries_of n) t.found.told ∙ entries_of-append n k.seen t.found.others
        ∙ ap (λ (xs : List Entry). entries_of n k.seen ++ xs) t.found.none_own
        ∙ append-nil (entries_of n k.seen)));
    legal = under_setting t.before k.setting t.found.setting t.found.is_history;
    session = keeps.session;
    begins = subst (λ (l : List Entry). BeginsWith l k.opening) (sym t.found.told)
        (begins_still k.seen k.opening t.found.others keeps.begins);
    within = omega (
      arith,
      keeps.within,
      ap length t.found.told,
      length-append k.seen t.found.others,
    );
    view = subst (λ (es : List Entry). IsAfter (edition_in k.setting) es view) (sym seen_still)
        keeps.view;
  }

  pub lost_keeps : Keeps k' n front view
  lost_keeps = subst (λ (j : Known Entry). Keeps j n front view) (sym t.pass) told_keeps

  pub lost_sharing : sharing_in k' ≡ sharing_in k
  lost_sharing = ap sharing_in t.pass

  told_unplaced : IsUnplaced (knowledge_of (shared_pass k n front))
      (knowledge_of (shared_pass told_later n front))
  told_unplaced = record {
    same = record { number = refl; edition = refl; room = refl; alone = refl };
    others = t.found.others;
    are_others = record { none_own = t.found.none_own; none_alone = λ e. cc };
    told = t.found.told;
    seen = seen_still;
  }

  pub lost_unplaced : IsUnplaced (knowledge_of (shared_pass k n front))
      (knowledge_of (shared_pass k' n front))
  lost_unplaced = subst (λ (j : Known Entry). IsUnplaced (knowledge_of (shared_pass k n front))
      (knowledge_of (shared_pass j n front))) (sym t.pass) told_unplaced

-- entered or not, the session and its history are the same
pub told_same : (old new : Knowledge) (request : Request) (result : Result Placed ChangeFault)
    → IfOk result (λ done. IsPlaced old new request done.reply done.place)
    → IfErr result (λ _. IsUnplaced old new) → IsSameSession old new
told_same old new request (Ok done) placed unplaced = placed.same
told_same old new request (Err fault) placed unplaced = unplaced.same

-- a fault is that of a book with the history that was told
pub lost_fault : (k : Known Entry) (n front : ℕ) (k' : Known Entry) (fault : ChangeFault)
    → IsTurnLost k n k' fault → IsBookFault (told_history (shared_pass k' n front)) fault
lost_fault k n front k' fault t =
    subst (λ (j : Known Entry). IsBookFault (told_history (shared_pass j n front)) fault) (sym t.pass)
    (subst (λ (s : List ℕ). IsBookFault (history_of s t.before.entries) fault) t.found.setting
    t.refused)

-- which a port says less of
pub book_refused : (pass : SharedPass) (fault : ChangeFault)
    → IsBookFault (told_history pass) fault → IsRefusedBy (knowledge_of pass) fault
book_refused pass (HistoryFull n) full = full
book_refused pass NoMemory room = tt
