-- What words ask for and an input have at most one status.
use Rattle.std.proofs.Common.{◌≡◌, Bool, ℕ, ◌<◌, ◌≤◌, List, length, refl, ◌∙◌, sym, ap, ap₂, subst, arith, inl, inr, Option, Some, None}
use Rattle.std.specs.Prelude.{◌⊎◌, ◌≢◌, IfSome}
use Rattle.alg_model.specs.Lattices.{Lattice}
use Rattle.lat_language.specs.declared.scripts.Script.{Script}
use Rattle.lat_language.specs.Grammar.{Spells, FirstBad}
use Rattle.lat_language.specs.Texts.{bad_line_text}
use Rattle.lat_language.proofs.OneMeaning.{never_both, fault_unique}
use Rattle.lat_audit.specs.Verdicts.{Judges}
use Rattle.lat_audit.specs.VerdictTexts.{verdict_text}
use Rattle.lat_audit.specs.declared.verdict_lines.TheConstants.{MAX_DUMP}
use Rattle.lat_audit.specs.declared.verdicts.AuditVerdict.{AuditVerdict}
use Rattle.lat_audit.specs.declared.verdicts.AuditVerdict.TheVariants.{Good, BadText, BadField, BadMap, BadRule, NoMemory}
use Rattle.lat_audit.proofs.OneVerdict.{text_has_one_verdict}
use Rattle.lat_session.specs.Outcomes.{Operations}
use Rattle.lattice_run.specs.declared.run.TheConstants.{MAX_INPUT}
use Rattle.lattice_run.specs.declared.tasks.Task.{Task}
use Rattle.lattice_run.specs.declared.tasks.Task.TheVariants.{Play, Audit, Gen}
use Rattle.lattice_run.specs.Tasks.{PlaysInput, limit}
use Rattle.lattice_run.specs.Answers.{IsOutput, IsFault, Answers}
use Rattle.lattice_run.specs.Answers.Answers.{usage, too_long, bad_line, dump_too_long, bad_dump, output}

-- ---- what a task that plays its input is not
-- it is asked for,
pub plays_asked : (asked : Option Task) → PlaysInput asked → asked ≡ None → ⊥
plays_asked asked p e = subst PlaysInput e p

pub output_asked : (asked : Option Task) (task : Task) → asked ≡ Some task → asked ≡ None → ⊥
output_asked asked task is e = cc

-- it reads,
pub plays_limit : (asked : Option Task) → PlaysInput asked → limit asked ≡ None → ⊥
plays_limit None p e = p
plays_limit (Some (Play o)) p e = cc
plays_limit (Some Audit) p e = p
plays_limit (Some (Gen s f m)) p e = p

-- at most the limit of a script,
pub plays_fits : (asked : Option Task) (n : ℕ) → PlaysInput asked
    → IfSome (limit asked) (λ most. n ≤ most) → n ≤ MAX_INPUT
plays_fits None n p fits = absurd p
plays_fits (Some (Play o)) n p fits = fits
plays_fits (Some Audit) n p fits = absurd p
plays_fits (Some (Gen s f m)) n p fits = absurd p

-- and its output is that of a script that the input spells
pub plays_script : (threads : Bool) (operations : Operations) (asked : Option Task) (task : Task)
    (input text : List ℕ) → PlaysInput asked → asked ≡ Some task
    → IsOutput threads operations task input text → (script : Script) × Spells input script
plays_script threads operations asked (Play wanted) input text p e o = (o.0, o.1)
plays_script threads operations asked Audit input text p e o = absurd (subst PlaysInput e p)
plays_script threads operations asked (Gen s f m) input text p e o = absurd (subst PlaysInput e p)

-- a bad line and an output exclude each other,
pub bad_output : (threads : Bool) (operations : Operations) (asked : Option Task)
    (input : List ℕ) (line kind : ℕ) (task : Task) (text : List ℕ) → PlaysInput asked → asked ≡ Some task
    → FirstBad input line kind → IsOutput threads operations task input text → ⊥
bad_output threads operations asked input line kind task text p is b o =
    let played = plays_script threads operations asked task input text p is o in
    never_both input played.0 line kind played.1 b

-- and so do an input that is too long and an output
pub long_output : (asked : Option Task) (n : ℕ) → PlaysInput asked → MAX_INPUT < n
    → IfSome (limit asked) (λ most. n ≤ most) → ⊥
long_output asked n p l fits = let within = plays_fits asked n p fits in omega (arith, l)

-- ---- what a task that judges its input is not
-- it plays nothing,
pub played_audited : (asked : Option Task) → PlaysInput asked → asked ≡ Some Audit → ⊥
played_audited asked p e = subst PlaysInput e p

-- it generates nothing,
gen_audited : (s f m : ℕ) → Some (Gen s f m) ≡ Some Audit → ⊥
gen_audited s f m e = cc

-- it reads,
pub audits_limit : (asked : Option Task) → asked ≡ Some Audit → limit asked ≡ None → ⊥
audits_limit asked e none = let some : limit asked ≡ Some MAX_DUMP = ap limit e in cc

-- its input is no lattice's dump where it is too long,
pub long_good : (asked : Option Task) (n : ℕ) → asked ≡ Some Audit → MAX_DUMP < n
    → IfSome (limit asked) (λ most. n ≤ most) → ⊥
long_good asked n e l fits =
    let within : n ≤ MAX_DUMP = subst (λ a. IfSome (limit a) (λ most. n ≤ most)) e fits in omega (arith, l)

-- and a fault and a lattice exclude each other
audited_output : (threads : Bool) (operations : Operations) (asked : Option Task) (task : Task)
    (input text : List ℕ) → asked ≡ Some Audit → asked ≡ Some task
    → IsOutput threads operations task input text → (L : Lattice) × Judges input (Good L)
audited_output threads operations asked (Play wanted) input text e is o =
    absurd (played_audited asked (subst PlaysInput (sym is) tt) e)
audited_output threads operations asked Audit input text e is o = (o.0, o.1)
audited_output threads operations asked (Gen s f m) input text e is o = absurd (gen_audited s f m (sym is ∙ e))

-- a verdict that is given is that of a lattice or a fault
pub good_or_fault : (verdict : AuditVerdict) → verdict ≢ NoMemory
    → ((L : Lattice) × (verdict ≡ Good L)) ⊎ IsFault verdict
good_or_fault (Good L) given = inl (L, refl)
good_or_fault (BadText line) given = inr tt
good_or_fault (BadField i) given = inr tt
good_or_fault (BadMap i j) given = inr tt
good_or_fault (BadRule r i j k) given = inr tt
good_or_fault NoMemory given = absurd (given refl)

fault_given : (verdict : AuditVerdict) → IsFault verdict → verdict ≡ NoMemory → ⊥
fault_given verdict f e = subst IsFault e f

pub fault_output : (threads : Bool) (operations : Operations) (asked : Option Task) (task : Task)
    (input text : List ℕ) (verdict : AuditVerdict) → asked ≡ Some Audit → Judges input verdict
    → IsFault verdict → asked ≡ Some task → IsOutput threads operations task input text → ⊥
fault_output threads operations asked task input text verdict e judges f is o =
    let (L, of) = audited_output threads operations asked task input text e is o in
    let same = text_has_one_verdict input verdict (Good L) (fault_given verdict f) (λ g. cc) judges of in subst IsFault same f

same_fault : (input : List ℕ) (verdict other : AuditVerdict) → Judges input verdict → Judges input other
    → IsFault verdict → IsFault other → verdict_text verdict ≡ verdict_text other
same_fault input verdict other a b f g =
    ap verdict_text (text_has_one_verdict input verdict other (fault_given verdict f) (fault_given other g) a b)

-- **two answers to what is asked for and to an input are one, or both are outputs of one task**,
-- with threads and without
pub data Agree (threads beside : Bool) (operations : Operations) (asked : Option Task)
    (input : List ℕ) (s t : ℕ) (text other : List ℕ) : Type 0 where
  one : s ≡ t → text ≡ other → Agree threads beside operations asked input s t text other
  outputs : s ≡ t → (task : Task) → asked ≡ Some task → IsOutput threads operations task input text
      → IsOutput beside operations task input other
      → Agree threads beside operations asked input s t text other

module _ {threads beside : Bool} {operations : Operations} {asked : Option Task} {input : List ℕ} where
  pub agree : {s t : ℕ} {text other : List ℕ} → Answers threads operations asked input s text
      → Answers beside operations asked input t other
      → Agree threads beside operations asked input s t text other
  agree (usage e) (usage f) = one refl refl
  agree (usage e) (too_long p l) = absurd (plays_asked asked p e)
  agree (usage e) (bad_line p f line kind b) = absurd (plays_asked asked p e)
  agree (usage e) (dump_too_long a l) = absurd (output_asked asked Audit a e)
  agree (usage e) (bad_dump a f v j w) = absurd (output_asked asked Audit a e)
  agree (usage e) (output task text is f o) = absurd (output_asked asked task is e)
  agree (too_long p l) (usage e) = absurd (plays_asked asked p e)
  agree (too_long p l) (too_long q m) = one refl refl
  agree (too_long p l) (bad_line q f line kind b) = absurd (omega arith)
  agree (too_long p l) (dump_too_long a m) = absurd (played_audited asked p a)
  agree (too_long p l) (bad_dump a f v j w) = absurd (played_audited asked p a)
  agree (too_long p l) (output task text is f o) = absurd (long_output asked (length input) p l f)
  agree (bad_line p f line kind b) (usage e) = absurd (plays_asked asked p e)
  agree (bad_line p f line kind b) (too_long q l) = absurd (omega arith)
  agree (bad_line p f line kind b) (bad_line q g line' kind' b') =
      let both = fault_unique input line line' kind kind' b b' in one refl (ap₂ bad_line_text both.0 both.1)
  agree (bad_line p f line kind b) (dump_too_long a l) = absurd (played_audited asked p a)
  agree (bad_line p f line kind b) (bad_dump a g v j w) = absurd (played_audited asked p a)
  agree (bad_line p f line kind b) (output task text is g o) =
      absurd (bad_output beside operations asked input line kind task text p is b o)
  agree (dump_too_long a l) (usage e) = absurd (output_asked asked Audit a e)
  agree (dump_too_long a l) (too_long p m) = absurd (played_audited asked p a)
  agree (dump_too_long a l) (bad_line p f line kind b) = absurd (played_audited asked p a)
  agree (dump_too_long a l) (dump_too_long b m) = one refl refl
  agree (dump_too_long a l) (bad_dump b f v j w) = absurd (omega arith)
  agree (dump_too_long a l) (output task text is f o) = absurd (long_good asked (length input) a l f)
  agree (bad_dump a f v j w) (usage e) = absurd (output_asked asked Audit a e)
  agree (bad_dump a f v j w) (too_long p l) = absurd (played_audited asked p a)
  agree (bad_dump a f v j w) (bad_line p g line kind b) = absurd (played_audited asked p a)
  agree (bad_dump a f v j w) (dump_too_long b l) = absurd (omega arith)
  agree (bad_dump a f v j w) (bad_dump b g v' j' w') = one refl (same_fault input v v' j j' w w')
  agree (bad_dump a f v j w) (output task text is g o) =
      absurd (fault_output beside operations asked task input text v a j w is o)
  agree (output task text is f o) (usage e) = absurd (output_asked asked task is e)
  agree (output task text is f o) (too_long p l) = absurd (long_output asked (length input) p l f)
  agree (output task text is f o) (bad_line p g line kind b) =
      absurd (bad_output threads operations asked input line kind task text p is b o)
  agree (output task text is f o) (dump_too_long a l) = absurd (long_good asked (length input) a l f)
  agree (output task text is f o) (bad_dump a g v j w) =
      absurd (fault_output threads operations asked task input text v a j w is o)
  agree (output task text is f o) (output task' other is' f' o') =
      let same : task' ≡ task = cc in
      outputs refl task is o (subst (λ t. IsOutput beside operations t input other) same o')

  agreed_status : {s t : ℕ} {text other : List ℕ} → Agree threads beside operations asked input s t text other → s ≡ t
  agreed_status (one s t) = s
  agreed_status (outputs s task is o o') = s

  -- **they have one status**
  pub status_unique : {s t : ℕ} {text other : List ℕ} → Answers threads operations asked input s text
      → Answers beside operations asked input t other → s ≡ t
  status_unique a b = agreed_status (agree a b)

-- ---- where nothing is read the input doesn't count
unread_output : (threads : Bool) (operations : Operations) (asked : Option Task) (task : Task)
    (input other text : List ℕ) → limit asked ≡ None → asked ≡ Some task
    → IsOutput threads operations task input text → IsOutput threads operations task other text
unread_output threads operations asked (Play wanted) input other text none is o =
    absurd (plays_limit asked (subst PlaysInput (sym is) tt) none)
unread_output threads operations asked Audit input other text none is o = absurd (audits_limit asked is none)
unread_output threads operations asked (Gen s f m) input other text none is o = o

pub unread_answer : {threads : Bool} {operations : Operations} {asked : Option Task}
    {input : List ℕ} (other : List ℕ) {status : ℕ} {text : List ℕ} → limit asked ≡ None
    → Answers threads operations asked input status text
    → Answers threads operations asked other status text
unread_answer other none (usage e) = usage e
unread_answer {asked = asked} other none (too_long p l) = absurd (plays_limit asked p none)
unread_answer {asked = asked} other none (bad_line p f line kind b) = absurd (plays_limit asked p none)
unread_answer {asked = asked} other none (dump_too_long a l) = absurd (audits_limit asked a none)
unread_answer {asked = asked} other none (bad_dump a f v j w) = absurd (audits_limit asked a none)
unread_answer {threads = threads} {operations = operations} {asked = asked} {input = input} other none (output task text is f o) =
    output task text is (subst (λ most. IfSome most (λ m. length other ≤ m)) (sym none) tt) (unread_output threads operations asked task input other text none is o)
