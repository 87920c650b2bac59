-- The laws, each from its lemma; the statements and what they say are in specs/Theorems.antt.
use Rattle.alg_choices.specs.Theorems.{CandidatesFit, CandidatesAreCommonZeros, AllSuffice, UncoveredSuffice, PrescriptionIsExact, RootsOfDivisorAreCommon, ChoiceIsLeastRoot, PlainRootExists, StoredMapIsChoice, StoredMapIsOnlyOne, DegreesTellMissing, LinkingFills, NewPairsAreCounted}
use Rattle.alg_choices.proofs.Restrictions as Restrictions
use Rattle.alg_choices.proofs.Fitting as Fitting
use Rattle.alg_choices.proofs.Searching as Searching
use Rattle.alg_choices.proofs.Members as Members
use Rattle.alg_choices.proofs.Linking as Linking
use Rattle.alg_choices.proofs.Counting as Counting

pub fit_law : CandidatesFit
fit_law L E F needed sending v C A same enough = Fitting.fits_candidate C A same enough sending v

pub zeros_law : CandidatesAreCommonZeros
zeros_law L E F needed restriction sending v C A same given enough R =
    Searching.zeros_candidate C A same R enough sending given v

pub all_law : AllSuffice
all_law L E F C A = Fitting.all_sufficient C A

pub uncovered_law : UncoveredSuffice
uncovered_law L E F C A = Fitting.uncovered_sufficient C A

pub prescription_law : PrescriptionIsExact
prescription_law E F a b V W same va vb = Restrictions.prescription_is E F V W same a b va vb

pub divisor_law : RootsOfDivisorAreCommon
divisor_law F a b g v W va vb d = Restrictions.common_roots F W a b g va vb d v

pub choice_law : ChoiceIsLeastRoot
choice_law L E F sending g v roots = Searching.choice_from_roots g roots v

pub plain_law : PlainRootExists
plain_law L E F g C A same d roots = Searching.plain_root_exists C A same d g roots

pub stored_law : StoredMapIsChoice
stored_law L E F sending m C A h sent = Fitting.stored_choice C A h sent

pub only_law : StoredMapIsOnlyOne
only_law L E F sending m v C A h c = Fitting.stored_sent C A h c

pub missing_law : DegreesTellMissing
missing_law L E F holds ds H rising exactly = Members.are_missing H rising exactly

pub linking_law : LinkingFills
linking_law L M E F sending v count number into C A c e R P K =
    Linking.filled_by_linking C A c e R P K

pub pairs_law : NewPairsAreCounted
pairs_law L M ps G N = Counting.new_pairs G N
