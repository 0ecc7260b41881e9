-- From how a run ends to what the top call promises.
use Rattle.std.proofs.Common.{◌≡◌, ◌≢◌, ◌⊎◌, inl, inr, ℕ, List, [], ◌∷◌, Bool, true, false, cond, nat_lt, Option, Some, None, Result, Ok, Err, codes, arith, refl, ap, sym, ◌∙◌, subst, map, length, slice_get, ◌+◌, ◌-◌}
use Rattle.hp_code.specs.CodeViews.{compiled}
use Rattle.hp_code.specs.Listing.{listing_text}
use Rattle.hp_io.specs.declared.folder.Input.{Input}
use Rattle.hp_io.specs.declared.folder.Input.TheVariants as inputs
use Rattle.hp_io.specs.Inputs.{by_input}
use Rattle.hp_io.specs.Rules.{Rose}
use Rattle.hp_make.specs.Texts.{domain_text, problem_text}
use Rattle.hp_out.specs.Lines.{text_of, refused_usage, refused_read}
use Rattle.hp_out.specs.Writing.{SinkRun, Wrote, WrotePrefix, WroteProperPrefix}
use Rattle.hp_out.specs.declared.refusal.Refusal.{Refusal}
use Rattle.hp_out.specs.declared.refusal.Refusal.TheVariants as refusals
use Rattle.hp_out.proofs.WritingLemmas.{whole_prefix, prefix_longer}
use Rattle.hp_syntax.specs.declared.check.CheckFault.{CheckFault}
use Rattle.hp_syntax.specs.declared.limits.TheConstants.{MADE_DEPTH, USUAL_LEVELS}
use Rattle.hp_syntax.specs.declared.status.Status.{Status}
use Rattle.hp_syntax.specs.declared.status.Status.TheVariants as status
use Rattle.hp_syntax.specs.Grammar.{domain_form, problem_form}
use Rattle.hp_syntax.specs.Checks.{first_of, domain_faults}
use Rattle.hp_syntax.specs.Report.{Answer, Ending, Stopped, AtFault, AtCut, AtEnd, badness, end_of, line_of, line_report, nothing_seen, plan_of, plan_report, report, shown, status_of, told_from, told_pairs, worse}
use Rattle.hp_syntax.specs.Steps.{Expected}
use Rattle.hp_syntax.specs.Syntax.{Domain, Pair, Problem}
use Rattle.hp_syntax.specs.Terms.{Term}
use Rattle.hp_syntax.specs.TextForms.{Form, IsRead}
use Rattle.hp_syntax.specs.Walk.{Visit, count_told, heard_visits}
use Rattle.hp_best.specs.Bounded.{bounded, is_priced, last_of}
use Rattle.hp_after.specs.Reach.{Coming, reaching}
use Rattle.hp_after.specs.declared.reaching.Reached.{Reached}
use Rattle.hp_after.specs.declared.reaching.Reached.TheVariants as reached
use Rattle.hp_shallow.specs.LeastDepth.{first_end, least_depth}
use Rattle.hp_verify.specs.Kept.{DerivedAt, Faulty, Said, Underived, told_kept}
use Rattle.hp_telling.specs.AfterReports.{after_report, told_arrival}
use Rattle.hp_telling.specs.BestReports.{best_report}
use Rattle.hp_top.specs.ShallowReports.{shallow_report}
use Rattle.hp_telling.specs.VerifyReports.{told_said, verify_report}
use Rattle.hp_top.specs.declared.loading.LoadError.{LoadError}
use Rattle.hp_top.specs.declared.loading.LoadError.TheVariants as causes
use Rattle.hp_words.specs.Command.{Command, Verification, Job, Options, Planning, Continuing, Choosing, Deepening, Checking, Showing, Summing, Request, OnFiles, Verifying, Listing, accepts, named, file_named, on_files}
use Rattle.hp_top.specs.Making.{made_files, made_command}
use Rattle.hp_top.specs.Outcome as outcome
use Rattle.hp_top.specs.Outcome.{pair_visits}
use Rattle.hp_top.specs.Loading as loading
use Rattle.hp_top.specs.Loading.{ToldFile, FolderRun, Holds, Reads, IsUnread, StopsAt, LoadsBoth, LoadsThree, LoadsAlone}
use Rattle.hp_top.specs.Run.{TellsFiles, IsOutcome, RefusesWords, IsStopped, IsReadLine, ReadFails, CouldWrite, OfOutcome, OfReading, WritesPrefix, WritesProperPrefix}
use Rattle.hp_top.specs.Serving as serving
use Rattle.hp_top.specs.Serving.{Serves, Ends, load_answer, no_faults, made_run}
use Rattle.hp_top.specs.Telling as telling
use Rattle.hp_top.specs.Telling.{Tells}
use Rattle.hp_top.specs.Touching.{InputRun, IsUntouched, Touches, TouchesBy, TouchesNamed}

-- ---- statuses

-- a text that is refused, or files that are read, have one of eight statuses
abbrev IsAnswer : Status → Type 0
IsAnswer status.Done = Unit {0}
IsAnswer status.RunFault = Unit {0}
IsAnswer status.NoPlan = Unit {0}
IsAnswer status.CutShort = Unit {0}
IsAnswer status.DomainRefused = Unit {0}
IsAnswer status.ProblemRefused = Unit {0}
IsAnswer status.PlanRefused = Unit {0}
IsAnswer status.NoSuchPath = Unit {0}
IsAnswer status.NoMemory = ⊥
IsAnswer status.Usage = ⊥
IsAnswer status.ReadFault = ⊥
IsAnswer status.WriteFault = ⊥

chosen : (b : Bool) (x y : Status) → IsAnswer x → IsAnswer y → IsAnswer (cond b x y)
chosen true x y h k = h
chosen false x y h k = k

ending_answers : (x : Ending) (p : ℕ) → IsAnswer (status_of x p)
ending_answers Stopped p = tt
ending_answers (AtFault f) p = tt
ending_answers AtCut p = chosen (nat_lt 0 p) status.Done status.CutShort tt tt
ending_answers AtEnd p = chosen (nat_lt 0 p) status.Done status.NoPlan tt tt

report_answers : (tell : ℕ → Visit → List ℕ) (k : ℕ) (vs : List Visit) → IsAnswer (report tell k nothing_seen vs).1
report_answers tell k vs =
    let e = end_of k nothing_seen vs in ending_answers e.ending e.tally.plans

plan_answers : (k : ℕ) (o : Options) (vs : List Visit) → IsAnswer (outcome.plans_heard k o vs).1
unfolding plan_report
plan_answers k o vs = report_answers (plan_of (shown o.states o.paths)) k (heard_visits vs)

best_answers : (priced : Bool) (vs : List Visit) → IsAnswer (best_report priced vs).1
best_answers priced vs =
    let e = last_of nothing_seen (bounded priced vs) in ending_answers e.ending (count_told e.tally.plans)

arrival_answers : (tell : List Visit → Answer) (s : Coming) (left : List Visit) → IsAnswer (tell left).1
    → IsAnswer (told_arrival tell s left).1
arrival_answers tell s left h = at s.answer refl
  where
    at : (a : Reached) → s.answer ≡ a → IsAnswer (told_arrival tell s left).1
    at reached.At e = rw e h
    at reached.Absent e = rw e tt
    at (reached.Fault f) e = rw e tt

after_answers : (k : ℕ) (o : Options) (path : List ℕ) (vs : List Visit)
    → IsAnswer (after_report (outcome.plans_heard k o) path vs).1
after_answers k o path vs =
    let q = reaching path vs in
    arrival_answers (outcome.plans_heard k o) q.knows q.left (plan_answers k o q.left)

shallow_answers : (states : Bool) (limit : ℕ) (at : ℕ → List Visit) → IsAnswer (shallow_report states limit at).1
shallow_answers states limit at =
    let e = first_end (at (least_depth at limit)) in ending_answers e.ending e.tally.plans

said_answers : (x : Said) (n : ℕ) → IsAnswer (told_said x n).1
said_answers (DerivedAt v) n = tt
said_answers (Underived is_cut) n = chosen is_cut status.CutShort status.NoPlan tt tt
said_answers (Faulty f) n = tt

line_answers : (vs : List Visit) → IsAnswer (outcome.line_heard vs).1
unfolding line_report
line_answers vs = report_answers line_of 1 (heard_visits vs)

worse_answers : (s t : Status) → IsAnswer s → IsAnswer t → IsAnswer (worse s t)
worse_answers s t h k = chosen (nat_lt (badness s) (badness t)) t s k h

module _ (tell : Pair → Answer) (each : (p : Pair) → IsAnswer (tell p).1) where
  -- pairs have the status of an answer where each has
  pairs_answers_from : (count n : ℕ) (ps : List Pair) → IsAnswer (told_from count n (map tell ps)).1
  pairs_answers_from count n [] = tt
  pairs_answers_from count n (p ∷ ps) =
      worse_answers (tell p).1 (told_from count (n + 1) (map tell ps)).1 (each p) (pairs_answers_from count (n + 1) ps)

  pairs_answers : (ps : List Pair) → IsAnswer (told_pairs (map tell ps)).1
  pairs_answers ps = pairs_answers_from (length (map tell ps)) 1 ps

  -- and so has one of them by its number, or none
  pair_answers_at : (number count : ℕ) (o : Option Pair)
      → IsAnswer (outcome.told_or (outcome.refusal_answer (refusals.NoPair number count)) tell o).1
  pair_answers_at number count None = tt
  pair_answers_at number count (Some p) = each p

  one_answers : (number : ℕ) (ps : List Pair) → IsAnswer (outcome.pair_answer tell number ps).1
  one_answers number ps = pair_answers_at number (length ps) (slice_get ps (number - 1))

refused_answers : (which : Input) → IsAnswer (outcome.refused_status which)
refused_answers inputs.Domain = tt
refused_answers inputs.Problem = tt
refused_answers inputs.Plan = tt

why_answers : (which : Input) (why : outcome.Why) → IsAnswer (outcome.refusal_status (outcome.refusal_of which why))
why_answers which (outcome.InText r) = refused_answers which
why_answers which (outcome.InForm (Expected what s)) = refused_answers which

job_answers : (j : Job) (d : Domain) (p : Problem) → IsAnswer (outcome.job_answer j d p).1
job_answers (Planning k n o) d p =
    pairs_answers (λ pair. outcome.plans_heard k o (pair_visits d.rules o.levels n pair))
    (λ pair. plan_answers k o (pair_visits d.rules o.levels n pair)) p.pairs
job_answers (Continuing k n path o number) d p =
    one_answers (λ pair. after_report (outcome.plans_heard k o) path (pair_visits d.rules o.levels n pair))
    (λ pair. after_answers k o path (pair_visits d.rules o.levels n pair)) number p.pairs
job_answers (Deepening limit levels states) d p =
    pairs_answers (λ pair. shallow_report states limit (λ n. pair_visits d.rules levels n pair))
    (λ pair. shallow_answers states limit (λ n. pair_visits d.rules levels n pair)) p.pairs
job_answers (Choosing n levels) d p =
    pairs_answers (λ pair. best_report (is_priced d.rules) (pair_visits d.rules levels n pair))
    (λ pair. best_answers (is_priced d.rules) (pair_visits d.rules levels n pair)) p.pairs
job_answers Checking d p = tt
job_answers Showing d p = tt
job_answers (Summing seed n) d p =
    pairs_answers (λ pair. outcome.line_heard (pair_visits d.rules USUAL_LEVELS MADE_DEPTH pair))
    (λ pair. line_answers (pair_visits d.rules USUAL_LEVELS MADE_DEPTH pair)) p.pairs

checks_answer : (f : Option CheckFault) (a : Answer) → IsAnswer a.1 → IsAnswer (outcome.unless_faulty f a).1
checks_answer (Some f) a h = refused_answers (text_of f.in_problem)
checks_answer None a h = h

read_answers : (c : Command) (d : Domain) (p : Problem) → IsAnswer (outcome.answer_of_read c d p).1
read_answers c d p = checks_answer (outcome.first_fault d p) (outcome.job_answer c.job d p) (job_answers c.job d p)

pair_answers : (c : Command) (x : Domain × Problem) → IsAnswer (outcome.answer_of_pair c x).1
pair_answers c x = read_answers c x.0 x.1

plan_file_answers : (v : Verification) (x : (Domain × Problem) × List Term)
    → IsAnswer (outcome.answer_of_plan v x).1
plan_file_answers v x =
    let visits_of = pair_visits x.0.0.rules v.levels v.depth in
    checks_answer (outcome.first_fault x.0.0 x.0.1) (outcome.verify_answer v x.1 x.0.0 x.0.1)
    (one_answers (λ pair. verify_report x.1 (visits_of pair))
    (λ pair. let t = told_kept x.1 (visits_of pair) in said_answers t.said t.expansions) v.pair x.0.1.pairs)

listing_answers : (d : Domain) → IsAnswer (outcome.listing_answer d).1
listing_answers d = checks_answer (first_of (domain_faults d)) (listing_text (compiled d.rules), status.Done) tt

-- ---- what is loaded

-- a fact of a told file is one of its text
told_text : (P : List ℕ → Type 0) (f : ToldFile) (o : Option (List ℕ)) → f ≡ Some o → Holds P f
    → (t : List ℕ) × (o ≡ Some t) × P t
told_text P f None e h = absurd (subst (Holds P) e h)
told_text P f (Some t) e h = (t, refl, subst (Holds P) e h)

-- a file that is told to be missing isn't there
missing : (f : ToldFile) (o : Option (List ℕ)) → f ≡ Some o → f ≡ Some None → o ≡ None
missing f None e h = refl
missing f (Some t) e h = let both : Some (Some t) ≡ Some None = sym e ∙ h in cc

-- reading didn't fail: the status says so, or no count of faults rose
abbrev pub ReadsWell : Status → FolderRun → Type 0
ReadsWell s r = (s ≢ status.ReadFault) ⊎ ((w : Input) → Rose (r.before w) (r.now w) → ⊥)

-- where reading didn't fail but an input is unread, its file is told to be missing
unread_missing : (s : Status) (r : FolderRun) (which : Input) (f : ToldFile) (o : Option (List ℕ))
    → s ≡ status.ReadFault → ReadsWell s r → f ≡ Some o → IsUnread which f r.before r.now → o ≡ None
unread_missing s r which f o e (inl x) t u = absurd (x e)
unread_missing s r which f o e (inr x) t (inl rose) = absurd (x which rose)
unread_missing s r which f o e (inr x) t (inr m) = missing f o t m

module _ (folder : FolderRun) where
  -- the result of a load of the files of these names, and its cause
  data Known {X : Type 0} (names : Input → Option (List ℕ)) (loaded : Result X LoadError) : Type 0 where
    ForMemory : loaded ≡ Err causes.NoMemory → Known names loaded
    ForReading : (which : Input) (name : List ℕ) → loaded ≡ Err (causes.Refused (refusals.Read which))
        → names which ≡ Some name → IsUnread which (folder.file name) folder.before folder.now → Known names loaded
    ForText : (which : Input) (why : outcome.Why) → loaded ≡ Err (causes.Refused (outcome.refusal_of which why))
        → Known names loaded
    ForAnswer : (x : X) → loaded ≡ Ok x → Known names loaded

  -- a stop at a file that is named
  stop_known : {X A : Type 0} (names : Input → Option (List ℕ)) (which : Input) (form : Form A) (name : List ℕ)
      (cause : LoadError) (loaded : Result X LoadError) → names which ≡ Some name
      → StopsAt which form cause (folder.file name) folder.before folder.now → loaded ≡ Err cause → Known names loaded
  stop_known names which form name cause loaded n (loading.StopsAt.WithoutMemory e) i = ForMemory (i ∙ ap Err e)
  stop_known names which form name cause loaded n (loading.StopsAt.Unread e u) i =
      ForReading which name (i ∙ ap Err e) n u
  stop_known names which form name cause loaded n (loading.StopsAt.Unreadable why e h) i =
      ForText which why (i ∙ ap Err e)

  -- a cause is one that the files have: memory isn't wanting, and what is unread is missing
  abbrev IsExact : outcome.Files → LoadError → Type 0
  IsExact files cause =
      (cause ≢ causes.NoMemory)
      × ((which : Input) (name : List ℕ) → cause ≡ causes.Refused (refusals.Read which)
      → IsUnread which (folder.file name) folder.before folder.now → files name ≡ None)

  module _ (files : outcome.Files) (told : TellsFiles folder.file files) where
    -- the reading of a told file is the load of the file
    good_exact : {A : Type 0} (which : Input) (form : Form A) (name : List ℕ) (x : A) → Reads form (folder.file name) x
        → outcome.LoadsFile which form (files name) (Ok x)
    good_exact which form name x h =
        let t = told_text (λ t. IsRead form t x) (folder.file name) (files name) (told name) h in
        outcome.LoadsFile.Good t.0 x t.1 t.2 refl

    -- a stop at a told file refuses the file
    bad_exact : {A : Type 0} (which : Input) (form : Form A) (name : List ℕ) (cause : LoadError) → IsExact files cause
        → StopsAt which form cause (folder.file name) folder.before folder.now
        → (r : Refusal) × outcome.LoadsFile which form (files name) (Err r) × (cause ≡ causes.Refused r)
    bad_exact which form name cause p (loading.StopsAt.WithoutMemory e) = absurd (p.0 e)
    bad_exact which form name cause p (loading.StopsAt.Unread e u) =
        (refusals.Read which, outcome.LoadsFile.Missing (p.1 which name e u) refl, e)
    bad_exact which form name cause p (loading.StopsAt.Unreadable why e h) =
        let t = told_text (λ t. outcome.IsUnreadable form t why) (folder.file name) (files name) (told name) h in
        (outcome.refusal_of which why, outcome.LoadsFile.Bad t.0 why t.1 t.2 refl, e)

-- a refusal is a cause
abbrev as_told : {X : Type 0} → Result X Refusal → Result X LoadError
as_told (Ok x) = Ok x
as_told (Err r) = Err (causes.Refused r)

-- a value that is told was loaded
told_ok : {X : Type 0} (r : Result X Refusal) (x : X) → Ok x ≡ as_told r → Ok x ≡ r
told_ok (Ok y) x e = let same : x ≡ y = cc in ap Ok same
told_ok (Err r) x e = cc

-- two causes for which one thing isn't loaded are one
same_cause : {X : Type 0} (loaded : Result X LoadError) (d e : LoadError) → loaded ≡ Err d → loaded ≡ Err e → d ≡ e
same_cause loaded d e i k = let same : Err d ≡ Err e = sym i ∙ k in cc

-- a way to load files of a folder: the causes that stop it, and the same of told files
record Loading {X : Type 0} (folder : FolderRun) (names : Input → Option (List ℕ))
    (loads : Result X LoadError → Type 0) (from : outcome.Files → Result X Refusal → Type 0) (answer : X → Answer)
    : Type 0 where
  known : (loaded : Result X LoadError) → loads loaded → Known folder names loaded
  exact : (files : outcome.Files) → TellsFiles folder.file files → (loaded : Result X LoadError)
      → ((cause : LoadError) → loaded ≡ Err cause → IsExact folder files cause) → loads loaded
      → (x : Result X Refusal) × from files x × (loaded ≡ as_told x)
  answers : (x : X) → IsAnswer (answer x).1

-- the files of a domain and a problem
module _ (folder : FolderRun) (domain problem : List ℕ) (names : Input → Option (List ℕ))
    (first : names inputs.Domain ≡ Some domain) (second : names inputs.Problem ≡ Some problem) where
  both_known : (loaded : Result (Domain × Problem) LoadError) → LoadsBoth folder domain problem loaded
      → Known folder names loaded
  both_known loaded (outcome.Then.Stopped e h i) =
      stop_known folder names inputs.Domain domain_form domain e loaded first h i
  both_known loaded (outcome.Then.Went d h (outcome.Then.Stopped e k j)) =
      stop_known folder names inputs.Problem problem_form problem e loaded second k j
  both_known loaded (outcome.Then.Went d h (outcome.Then.Went p k j)) = ForAnswer (d, p) j

both_exact : (folder : FolderRun) (domain problem : List ℕ) (files : outcome.Files) → TellsFiles folder.file files
    → (loaded : Result (Domain × Problem) LoadError)
    → ((cause : LoadError) → loaded ≡ Err cause → IsExact folder files cause) → LoadsBoth folder domain problem loaded
    → (x : Result (Domain × Problem) Refusal) × outcome.LoadsNamed files domain problem x × (loaded ≡ as_told x)
both_exact folder domain problem files told loaded p (outcome.Then.Stopped e h i) =
    let b = bad_exact folder files told inputs.Domain domain_form domain e (p e i) h in
    (Err b.0, outcome.Then.Stopped b.0 b.1 refl, i ∙ ap Err b.2)
both_exact folder domain problem files told loaded p (outcome.Then.Went d h (outcome.Then.Stopped e k j)) =
    let b = bad_exact folder files told inputs.Problem problem_form problem e (p e j) k in (
      Err b.0,
      outcome.Then.Went d (good_exact folder files told inputs.Domain domain_form domain d h)
          (outcome.Then.Stopped b.0 b.1 refl),
      j ∙ ap Err b.2,
    )
both_exact folder domain problem files told loaded p (outcome.Then.Went d h (outcome.Then.Went q k j)) = (
  Ok (d, q),
  outcome.Then.Went d (good_exact folder files told inputs.Domain domain_form domain d h)
      (outcome.Then.Went q (good_exact folder files told inputs.Problem problem_form problem q k) refl),
  j,
)

-- the files of a command
command_loading : (folder : FolderRun) (c : Command)
    → Loading folder (named c) (LoadsBoth folder c.domain c.problem) (λ files. outcome.LoadsFiles files c)
    (outcome.answer_of_pair c)
command_loading folder c = record {
  known = both_known folder c.domain c.problem (named c) refl refl;
  exact = both_exact folder c.domain c.problem;
  answers = pair_answers c;
}

-- a cause for which nothing is loaded, as one for which something else isn't
stopped_known : {X Y : Type 0} (folder : FolderRun) (names : Input → Option (List ℕ)) (first : Result X LoadError)
    (loaded : Result Y LoadError) (e : LoadError) → first ≡ Err e → loaded ≡ Err e → Known folder names first
    → Known folder names loaded
stopped_known folder names first loaded e i j (ForMemory k) =
    ForMemory (j ∙ ap Err (same_cause first e causes.NoMemory i k))
stopped_known folder names first loaded e i j (ForReading which name k n u) =
    ForReading which name (j ∙ ap Err (same_cause first e (causes.Refused (refusals.Read which)) i k)) n u
stopped_known folder names first loaded e i j (ForText which why k) =
    ForText which why (j ∙ ap Err (same_cause first e (causes.Refused (outcome.refusal_of which why)) i k))
stopped_known folder names first loaded e i j (ForAnswer x k) = let no : Err e ≡ Ok x = sym i ∙ k in cc

-- the files of a verification
plan_loading : (folder : FolderRun) (v : Verification)
    → Loading folder (file_named (Verifying v)) (LoadsThree folder v) (λ files. outcome.LoadsPlan files v)
    (outcome.answer_of_plan v)
plan_loading folder v = record { known = known; exact = exact; answers = plan_file_answers v }
  where
    known : (loaded : Result ((Domain × Problem) × List Term) LoadError) → LoadsThree folder v loaded
        → Known folder (file_named (Verifying v)) loaded
    known loaded (outcome.Then.Stopped e h i) =
        stopped_known folder (file_named (Verifying v)) (Err e) loaded e refl i
        (both_known folder v.domain v.problem (file_named (Verifying v)) refl refl (Err e) h)
    known loaded (outcome.Then.Went x h (outcome.Then.Stopped e k j)) =
        stop_known folder (file_named (Verifying v)) inputs.Plan outcome.steps_form v.plan e loaded refl k j
    known loaded (outcome.Then.Went x h (outcome.Then.Went steps k j)) = ForAnswer (x, steps) j

    exact : (files : outcome.Files) → TellsFiles folder.file files
        → (loaded : Result ((Domain × Problem) × List Term) LoadError)
        → ((cause : LoadError) → loaded ≡ Err cause → IsExact folder files cause) → LoadsThree folder v loaded
        → (x : Result ((Domain × Problem) × List Term) Refusal) × outcome.LoadsPlan files v x × (loaded ≡ as_told x)
    exact files told loaded p (outcome.Then.Stopped e h i) =
        let b = both_exact folder v.domain v.problem files told (Err e)
        (λ cause k. p cause (i ∙ ap Err (same_cause (Err e) e cause refl k))) h in
        stopped b.0 b.1 b.2
      where
        stopped : (r : Result (Domain × Problem) Refusal) → outcome.LoadsNamed files v.domain v.problem r
            → Err e ≡ as_told r
            → (x : Result ((Domain × Problem) × List Term) Refusal) × outcome.LoadsPlan files v x × (loaded ≡ as_told x)
        stopped (Ok x) l k = cc
        stopped (Err r) l k = (Err r, outcome.Then.Stopped r l refl, i ∙ ap Err (same_cause (Err e) e (causes.Refused r) refl k))
    exact files told loaded p (outcome.Then.Went x h (outcome.Then.Stopped e k j)) =
        let b = bad_exact folder files told inputs.Plan outcome.steps_form v.plan e (p e j) k in
        let d = both_exact folder v.domain v.problem files told (Ok x) (λ cause i. cc) h in (
          Err b.0,
          outcome.Then.Went x (subst (outcome.LoadsNamed files v.domain v.problem) (sym (told_ok d.0 x d.2)) d.1)
              (outcome.Then.Stopped b.0 b.1 refl),
          j ∙ ap Err b.2,
        )
    exact files told loaded p (outcome.Then.Went x h (outcome.Then.Went steps k j)) =
        let d = both_exact folder v.domain v.problem files told (Ok x) (λ cause i. cc) h in (
          Ok (x, steps),
          outcome.Then.Went x (subst (outcome.LoadsNamed files v.domain v.problem) (sym (told_ok d.0 x d.2)) d.1)
              (outcome.Then.Went steps (good_exact folder files told inputs.Plan outcome.steps_form v.plan steps k) refl),
          j,
        )

-- the file of a domain alone
listing_loading : (folder : FolderRun) (name : List ℕ)
    → Loading folder (file_named (Listing name)) (LoadsAlone folder name) (λ files. outcome.LoadsDomain files name)
    outcome.listing_answer
listing_loading folder name = record { known = known; exact = exact; answers = listing_answers }
  where
    known : (loaded : Result Domain LoadError) → LoadsAlone folder name loaded
        → Known folder (file_named (Listing name)) loaded
    known (Ok d) h = ForAnswer d refl
    known (Err cause) h =
        stop_known folder (file_named (Listing name)) inputs.Domain domain_form name cause (Err cause) refl h refl

    exact : (files : outcome.Files) → TellsFiles folder.file files → (loaded : Result Domain LoadError)
        → ((cause : LoadError) → loaded ≡ Err cause → IsExact folder files cause) → LoadsAlone folder name loaded
        → (x : Result Domain Refusal) × outcome.LoadsDomain files name x × (loaded ≡ as_told x)
    exact files told (Ok d) p h = (Ok d, good_exact folder files told inputs.Domain domain_form name d h, refl)
    exact files told (Err cause) p h =
        let b = bad_exact folder files told inputs.Domain domain_form name cause (p cause refl) h in
        (Err b.0, b.1, ap Err b.2)

module _ {X : Type 0} (answer : X → Answer) where
  -- the status of the answer to a load
  abbrev status_to : Result X LoadError → Status
  status_to loaded = (outcome.answer_to load_answer answer loaded).1

  same_answer : (x : Result X Refusal) → outcome.answer_to load_answer answer (as_told x)
      ≡ outcome.answer_to outcome.refusal_answer answer x
  same_answer (Ok x) = refl
  same_answer (Err r) = refl

module _ {X : Type 0} (folder : FolderRun) (names : Input → Option (List ℕ)) (loads : Result X LoadError → Type 0)
    (from : outcome.Files → Result X Refusal → Type 0) (answer : X → Answer)
    (load : Loading folder names loads from answer)
    (files : outcome.Files) (told : TellsFiles folder.file files) where
  -- the answer to told files is the answer to the files
  comes_exact : (loaded : Result X LoadError)
      → ((cause : LoadError) → loaded ≡ Err cause → IsExact folder files cause) → loads loaded
      → outcome.Comes (from files) answer (outcome.answer_to load_answer answer loaded)
  comes_exact loaded p h =
      let x = load.exact files told loaded p h in
      record {
        loaded = x.0;
        loads = x.1;
        comes = ap (outcome.answer_to load_answer answer) x.2
            ∙ same_answer answer x.0;
      }

  -- unless memory is wanting or reading failed
  comes_well : (loaded : Result X LoadError) (s : Status) → s ≢ status.NoMemory → s ≡ status_to answer loaded
      → ReadsWell s folder → loads loaded → outcome.Comes (from files) answer
      (outcome.answer_to load_answer answer loaded)
  comes_well loaded s n x w =
      comes_exact loaded
      (λ cause i. (
        λ e. n (x ∙ ap (status_to answer) (i ∙ ap Err e)),
        λ which name e u.
            unread_missing s folder which (folder.file name) (files name)
            (x ∙ ap (status_to answer) (i ∙ ap Err e)) w (told name) u,
      ))

-- ---- what was told

-- without want of memory and a write fault the answer's whole text was written, with its status
told_whole : (a : Answer) (s : Status) (r : SinkRun) → Tells a s r → s ≢ status.NoMemory → s ≢ status.WriteFault
    → (s ≡ a.1) × Wrote a.0 r.before r.after
told_whole a s r (telling.WithoutMemory e f) n w = absurd (n e)
told_whole a s r (telling.Unwritten e rose f) n w = absurd (w e)
told_whole a s r (telling.Written e t) n w = (e, t)

-- an outcome whose whole text was written is the outcome of the run
made : (words : List (List ℕ)) (files : outcome.Files) (before : List ℕ) (a : Answer) (s : Status)
    (old new : Option (List ℕ))
    → old ≡ Some before → (s ≡ a.1) × Wrote a.0 old new → outcome.Outcome words files a
    → IsOutcome words files s before new
made words files before a s old new o w x = record {
  text = a.0;
  outcome = subst (λ s. outcome.Outcome words files (a.0, s)) (sym w.0) x;
  written = subst (λ m. Wrote a.0 m new) o w.1;
}

never_rose : (which : Input) → Rose (no_faults which) (no_faults which) → ⊥
never_rose which rose = absurd (omega (arith, rose))

-- a file that is made is there
made_there : (seed n : ℕ) (which : Input) (name : List ℕ) → named (made_command seed n) which ≡ Some name
    → (made_run seed n).file name ≡ Some None → ⊥
made_there seed n inputs.Domain name i m =
    let e : codes "domain" ≡ name = cc in
    let f : Some (Some domain_text) ≡ Some None = subst (λ x. (made_run seed n).file x ≡ Some None) (sym e) m in
    cc
made_there seed n inputs.Plan name i m = cc
made_there seed n inputs.Problem name i m =
    let e : codes "problem" ≡ name = cc in
    let f : Some (Some (problem_text seed n)) ≡ Some None =
    subst (λ x. (made_run seed n).file x ≡ Some None) (sym e) m in
    cc

-- no file that is made is left unread
made_read : (which : Input) (name : List ℕ) (seed n : ℕ) → named (made_command seed n) which ≡ Some name
    → IsUnread which ((made_run seed n).file name) no_faults no_faults → ⊥
made_read which name seed n i (inl rose) = never_rose which rose
made_read which name seed n i (inr m) = made_there seed n which name i m

-- a run that tells an answer ends in one of three ways, and what follows from each follows
told_status : (a : Answer) (s : Status) (r : SinkRun) (P : Type 0) → Tells a s r
    → (s ≡ status.NoMemory → WrotePrefix a.0 r.before r.after → P)
    → (s ≡ status.WriteFault → Rose r.faults_before r.faults_after → WroteProperPrefix a.0 r.before r.after → P)
    → (s ≡ a.1 → Wrote a.0 r.before r.after → P) → P
told_status a s r P (telling.WithoutMemory e f) m w t = m e f
told_status a s r P (telling.Unwritten e rose f) m w t = w e rose f
told_status a s r P (telling.Written e h) m w t = t e h

-- a status that is one of two different ones is not the other
other : (s t u : Status) → (t ≡ u → ⊥) → s ≡ t → s ≡ u → ⊥
other s t u n e f = n (sym e ∙ f)

-- the text of a run that tells an answer and stopped short
record IsShort (text : List ℕ) (s : Status) (r : SinkRun) : Type 0 where
  prefix : s ≡ status.NoMemory → WrotePrefix text r.before r.after
  proper : s ≡ status.WriteFault → WroteProperPrefix text r.before r.after

-- an answer of another status than want of memory and a write fault is told up to a prefix
told_short : (a : Answer) (s : Status) (r : SinkRun) → (a.1 ≡ status.NoMemory → ⊥) → (a.1 ≡ status.WriteFault → ⊥)
    → Tells a s r → IsShort a.0 s r
told_short a s r n w t = record {
  prefix =
      λ e. told_status a s r (WrotePrefix a.0 r.before r.after) t (λ m f. f)
      (λ m rose f. absurd (other s _ _ (λ x. cc) m e)) (λ m h. absurd (n (sym m ∙ e)));
  proper =
      λ e. told_status a s r (WroteProperPrefix a.0 r.before r.after) t (λ m f. absurd (other s _ _ (λ x. cc) m e))
      (λ m rose f. f) (λ m h. absurd (w (sym m ∙ e)));
}

-- the empty text has no proper prefix, so only a sink that tells nothing has one of it written
empty_proper : (text : List ℕ) (a b : Option (List ℕ)) → WroteProperPrefix [] a b → WroteProperPrefix text a b
empty_proper text None b w = w
empty_proper text (Some a) b w = absurd (omega (arith, w.1))

-- where nothing is written for want of memory, every text is told up to its empty prefix
nothing_short : (text : List ℕ) (s : Status) (r : SinkRun) → Tells (load_answer causes.NoMemory) s r → IsShort text s r
nothing_short text s r t = record {
  prefix =
      λ e. prefix_longer [] text r.before r.after
      (told_status (load_answer causes.NoMemory) s r (WrotePrefix [] r.before r.after) t (λ m f. f)
      (λ m rose f. absurd (other s _ _ (λ x. cc) m e)) (λ m h. whole_prefix [] r.before r.after h));
  proper =
      λ e. told_status (load_answer causes.NoMemory) s r (WroteProperPrefix text r.before r.after) t
      (λ m f. absurd (other s _ _ (λ x. cc) m e)) (λ m rose f. empty_proper text r.before r.after f)
      (λ m h. absurd (other s _ _ (λ x. cc) m e));
}

-- two causes of one thing that isn't loaded are one
same_refusal : {A : Type 0} (loaded : Result A LoadError) (p q : Refusal) → loaded ≡ Err (causes.Refused p)
    → loaded ≡ Err (causes.Refused q) → p ≡ q
same_refusal loaded p q e f = let x : Err (causes.Refused p) ≡ Err (causes.Refused q) = sym e ∙ f in cc

-- a text that is refused is no unread file
why_unread : (which w : Input) (why : outcome.Why) → outcome.refusal_of which why ≡ refusals.Read w → ⊥
why_unread which w (outcome.InText r) e = cc
why_unread which w (outcome.InForm (Expected what s)) e = cc

-- served requests
module _ {X : Type 0} (folder : FolderRun) (names : Input → Option (List ℕ)) (loads : Result X LoadError → Type 0)
    (from : outcome.Files → Result X Refusal → Type 0) (answer : X → Answer)
    (load : Loading folder names loads from answer)
    (s : Status) (r : SinkRun) where
  -- a load ends in no status but want of memory, a read fault and those of answers
  never : (loaded : Result X LoadError) (u : Status) → (status.NoMemory ≡ u → ⊥) → (status.ReadFault ≡ u → ⊥)
      → (IsAnswer u → ⊥) → Known folder names loaded → status_to answer loaded ≡ u → ⊥
  never loaded u m f a (ForMemory e) i = m (sym (ap (status_to answer) e) ∙ i)
  never loaded u m f a (ForReading which name e n h) i = f (sym (ap (status_to answer) e) ∙ i)
  never loaded u m f a (ForText which why e) i =
      a (subst IsAnswer (sym (ap (status_to answer) e) ∙ i) (why_answers which why))
  never loaded u m f a (ForAnswer x e) i =
      a (subst IsAnswer (sym (ap (status_to answer) e) ∙ i) (load.answers x))

  -- a served request isn't refused as no command
  serves_usage : Serves loads answer s r → s ≡ status.Usage → ⊥
  serves_usage h u =
      told_status _ s r ⊥ h.tells (λ m f. other s _ _ (λ x. cc) m u) (λ m rose f. other s _ _ (λ x. cc) m u)
      (λ m w.
      never h.loaded status.Usage (λ x. cc) (λ x. cc) (λ x. x) (load.known h.loaded h.loads) (sym m ∙ u))

  abbrev SinkRose : Type 0
  SinkRose = Rose r.faults_before r.faults_after

  -- a write fault comes only where the count of the sink rose
  serves_write : Serves loads answer s r → s ≡ status.WriteFault → SinkRose
  serves_write h u =
      told_status _ s r SinkRose h.tells (λ m f. absurd (other s _ _ (λ x. cc) m u)) (λ m rose f. rose)
      (λ m w.
      absurd
      (never h.loaded status.WriteFault (λ x. cc) (λ x. cc) (λ x. x) (load.known h.loaded h.loads) (sym m ∙ u)))

  -- the line of an input that couldn't be read was written, where it is one that a run may write
  record HasLine (MayWrite : List ℕ → Type 0) : Type 0 where
    line : List ℕ
    may : MayWrite line
    written : Wrote line r.before r.after

  module _ (MayWrite : List ℕ → Type 0)
      (unread : (which : Input) (name : List ℕ) → names which ≡ Some name
      → IsUnread which (folder.file name) folder.before folder.now
      → loads (Err (causes.Refused (refusals.Read which))) → MayWrite (refused_read which)) where
    -- a load ends in a read fault only where an input is unread
    how_read : (loaded : Result X LoadError) → loads loaded → Known folder names loaded
        → status_to answer loaded ≡ status.ReadFault
        → Wrote (outcome.answer_to load_answer answer loaded).0 r.before r.after → HasLine MayWrite
    how_read loaded l (ForMemory e) i w =
        let x : status.NoMemory ≡ status.ReadFault = sym (ap (status_to answer) e) ∙ i in cc
    how_read loaded l (ForReading which name e n u) i w = record {
      line = refused_read which;
      may = unread which name n u (subst loads e l);
      written = subst (λ x. Wrote (outcome.answer_to load_answer answer x).0 r.before r.after) e w;
    }
    how_read loaded l (ForText which why e) i w =
        absurd (subst IsAnswer (sym (ap (status_to answer) e) ∙ i) (why_answers which why))
    how_read loaded l (ForAnswer x e) i w =
        absurd (subst IsAnswer (sym (ap (status_to answer) e) ∙ i) (load.answers x))

    -- a read fault is one of an unread input
    serves_read : Serves loads answer s r → s ≡ status.ReadFault → HasLine MayWrite
    serves_read h u =
        told_status _ s r (HasLine MayWrite) h.tells (λ m f. absurd (other s _ _ (λ x. cc) m u))
        (λ m rose f. absurd (other s _ _ (λ x. cc) m u))
        (λ m w. how_read h.loaded h.loads (load.known h.loaded h.loads) (sym m ∙ u) w)

    module _ (fs : outcome.Files) (told : TellsFiles folder.file fs)
        (come : (a : Answer) → outcome.Comes (from fs) answer a → MayWrite a.0)
        (some : (text : List ℕ) × MayWrite text) where
      abbrev ServesShort : Type 0
      ServesShort = (text : List ℕ) × MayWrite text × IsShort text s r

      -- an answer that the files come to is told up to a prefix
      answer_short : (loaded : Result X LoadError)
          → ((cause : LoadError) → loaded ≡ Err cause → IsExact folder fs cause) → loads loaded
          → IsAnswer (status_to answer loaded) → Tells (outcome.answer_to load_answer answer loaded) s r → ServesShort
      answer_short loaded p l i t =
          let a = outcome.answer_to load_answer answer loaded in (
            a.0,
            come a (comes_exact folder names loads from answer load fs told loaded p l),
            told_short a s r (λ e. subst IsAnswer e i) (λ e. subst IsAnswer e i) t,
          )

      how_short : (loaded : Result X LoadError) → loads loaded → Known folder names loaded
          → Tells (outcome.answer_to load_answer answer loaded) s r → ServesShort
      how_short loaded l (ForMemory e) t = (
        some.0,
        some.1,
        nothing_short some.0 s r (subst (λ x. Tells (outcome.answer_to load_answer answer x) s r) e
            t),
      )
      how_short loaded l (ForReading which name e n u) t = (
        refused_read which,
        unread which name n u (subst loads e l),
        told_short _ s r (λ x. cc) (λ x. cc) (subst (λ x. Tells (outcome.answer_to load_answer answer x) s r) e t),
      )
      how_short loaded l (ForText which why e) t =
          answer_short loaded
          (λ cause i. (
            λ m.
                let x : Err (causes.Refused (outcome.refusal_of which why)) ≡ Err causes.NoMemory =
                sym e ∙ (i ∙ ap Err m) in
                cc,
            λ w name m u. absurd (why_unread which w why (same_refusal loaded _ _ e (i ∙ ap Err m))),
          )) l (subst IsAnswer (sym (ap (status_to answer) e)) (why_answers which why)) t
      how_short loaded l (ForAnswer x e) t =
          answer_short loaded (λ cause i. let y : Ok x ≡ Err cause = sym e ∙ i in cc) l
          (subst IsAnswer (sym (ap (status_to answer) e)) (load.answers x)) t

      -- a served request has a text that a run may write, of which it wrote a prefix where it stopped short
      serves_short : Serves loads answer s r → ServesShort
      serves_short h = how_short h.loaded h.loads (load.known h.loaded h.loads) h.tells

-- ---- what ends

-- the load of a problem that is made
made_loading : (seed n : ℕ) → Loading (made_run seed n) (named (made_command seed n))
    (LoadsBoth (made_run seed n) (made_command seed n).domain (made_command seed n).problem)
    (λ files. outcome.LoadsFiles files (made_command seed n)) (outcome.answer_of_pair (made_command seed n))
made_loading seed n = command_loading (made_run seed n) (made_command seed n)

module _ (words : List (List ℕ)) (s : Status) (r : SinkRun) (files : outcome.Files) (written : List ℕ)
    (o : r.before ≡ Some written) (memory : s ≢ status.NoMemory) (write : s ≢ status.WriteFault) where
  -- an answer served without want of memory and faults is an outcome, where it is one of the words
  serves_well : {X : Type 0} (folder : FolderRun) (names : Input → Option (List ℕ))
      (loads : Result X LoadError → Type 0) (from : outcome.Files → Result X Refusal → Type 0) (answer : X → Answer)
      → Loading folder names loads from answer → (fs : outcome.Files) → TellsFiles folder.file fs → ReadsWell s folder
      → ((a : Answer) → outcome.Comes (from fs) answer a → outcome.Outcome words files a) → Serves loads answer s r
      → IsOutcome words files s written r.after
  serves_well folder names loads from answer load fs told k by h =
      let a = outcome.answer_to load_answer answer h.loaded in
      let x = told_whole a s r h.tells memory write in
      made words files written a s r.before r.after o x
      (by a (comes_well folder names loads from answer load fs told h.loaded s memory x.0 k h.loads))

  -- whatever ends without want of memory and faults is the outcome
  pub ends_well : (folder : FolderRun) → Ends words folder s r → TellsFiles folder.file files → ReadsWell s folder
      → IsOutcome words files s written r.after
  ends_well folder (serving.NoCommand e t) told k =
      made words files written (outcome.refusal_answer refusals.Usage) s r.before r.after o
      (told_whole _ s r t memory write) (outcome.NoCommand e refl)
  ends_well folder (serving.ByCommand c e h) told k =
      serves_well folder _ _ _ _ (command_loading folder c) files told k (λ a x. outcome.ByCommand c e x) h
  ends_well folder (serving.ByVerifying v e h) told k =
      serves_well folder _ _ _ _ (plan_loading folder v) files told k (λ a x. outcome.ByVerifying v e x) h
  ends_well folder (serving.ByListing d e h) told k =
      serves_well folder _ _ _ _ (listing_loading folder d) files told k (λ a x. outcome.ByListing d e x) h
  ends_well folder (serving.ByMaking seed n e h) told k =
      serves_well (made_run seed n) _ _ _ _ (made_loading seed n) (made_files seed n) (λ name. refl)
      (inr never_rose) (λ a x. outcome.ByMaking seed n e x) h

module _ (words : List (List ℕ)) (folder : FolderRun) (s : Status) (r : SinkRun) where
  -- words are refused only where they are no command
  pub ends_usage : Ends words folder s r → s ≡ status.Usage → accepts words ≡ None
  ends_usage (serving.NoCommand e t) u = e
  ends_usage (serving.ByCommand c e h) u = absurd (serves_usage folder _ _ _ _ (command_loading folder c) s r h u)
  ends_usage (serving.ByVerifying v e h) u = absurd (serves_usage folder _ _ _ _ (plan_loading folder v) s r h u)
  ends_usage (serving.ByListing d e h) u = absurd (serves_usage folder _ _ _ _ (listing_loading folder d) s r h u)
  ends_usage (serving.ByMaking seed n e h) u =
      absurd (serves_usage (made_run seed n) _ _ _ _ (made_loading seed n) s r h u)

  -- a write fault comes only where the count of the sink rose
  pub ends_write : Ends words folder s r → s ≡ status.WriteFault → Rose r.faults_before r.faults_after
  ends_write (serving.NoCommand e t) u =
      told_status _ s r (Rose r.faults_before r.faults_after) t (λ m f. absurd (other s _ _ (λ x. cc) m u))
      (λ m rose f. rose) (λ m w. absurd (other s _ _ (λ x. cc) m u))
  ends_write (serving.ByCommand c e h) u = serves_write folder _ _ _ _ (command_loading folder c) s r h u
  ends_write (serving.ByVerifying v e h) u = serves_write folder _ _ _ _ (plan_loading folder v) s r h u
  ends_write (serving.ByListing d e h) u = serves_write folder _ _ _ _ (listing_loading folder d) s r h u
  ends_write (serving.ByMaking seed n e h) u =
      serves_write (made_run seed n) _ _ _ _ (made_loading seed n) s r h u

  -- the line of an unread input of a request
  read_line : (request : Request) → accepts words ≡ Some request → (which : Input) (name : List ℕ)
      → file_named request which ≡ Some name → IsUnread which (folder.file name) folder.before folder.now
      → IsStopped folder request (causes.Refused (refusals.Read which)) → IsReadLine words folder (refused_read which)
  read_line request e which name n u l = record {
    request = request;
    accepted = e;
    which = which;
    name = name;
    has_name = n;
    unread = u;
    loads = l;
    line_is = refl;
  }

  -- a read fault is one of an input that the words name
  pub ends_read : Ends words folder s r → s ≡ status.ReadFault → ReadFails words folder r
  ends_read (serving.NoCommand e t) u =
      absurd
      (told_status _ s r ⊥ t (λ m f. other s _ _ (λ x. cc) m u) (λ m rose f. other s _ _ (λ x. cc) m u)
      (λ m w. other s _ _ (λ x. cc) m u))
  ends_read (serving.ByCommand c e h) u =
      let x = serves_read folder _ _ _ _ (command_loading folder c) s r (IsReadLine words folder)
      (read_line (OnFiles c) e) h u in
      record { line = x.line; cause = x.may; written = x.written }
  ends_read (serving.ByVerifying v e h) u =
      let x = serves_read folder _ _ _ _ (plan_loading folder v) s r (IsReadLine words folder)
      (read_line (Verifying v) e) h u in
      record { line = x.line; cause = x.may; written = x.written }
  ends_read (serving.ByListing d e h) u =
      let x = serves_read folder _ _ _ _ (listing_loading folder d) s r (IsReadLine words folder)
      (read_line (Listing d) e) h u in
      record { line = x.line; cause = x.may; written = x.written }
  ends_read (serving.ByMaking seed n e h) u =
      let x = serves_read (made_run seed n) _ _ _ _ (made_loading seed n) s r (λ line. ⊥)
      (λ which name i q l. made_read which name seed n i q) h u in
      absurd x.may

  module _ (files : outcome.Files) (told : TellsFiles folder.file files)
      (some : (a : Answer) × outcome.Outcome words files a) where
    abbrev MayWrite : List ℕ → Type 0
    MayWrite text = CouldWrite words files folder text

    abbrev EndsShort : Type 0
    EndsShort = (text : List ℕ) × MayWrite text × IsShort text s r

    any_text : (text : List ℕ) × MayWrite text
    any_text = (some.0.0, OfOutcome some.0.1 some.1)

    -- for every run there is a text that it could write, of which it wrote a prefix where it stopped short
    ends_short : Ends words folder s r → EndsShort
    ends_short (serving.NoCommand e t) =
        (refused_usage, OfOutcome status.Usage (outcome.NoCommand e refl), told_short _ s r (λ x. cc) (λ x. cc) t)
    ends_short (serving.ByCommand c e h) =
        serves_short folder _ _ _ _ (command_loading folder c) s r MayWrite
        (λ which name n u l. OfReading (read_line (OnFiles c) e which name n u l))
        files told (λ a x. OfOutcome a.1 (outcome.ByCommand c e x)) any_text h
    ends_short (serving.ByVerifying v e h) =
        serves_short folder _ _ _ _ (plan_loading folder v) s r MayWrite
        (λ which name n u l. OfReading (read_line (Verifying v) e which name n u l))
        files told (λ a x. OfOutcome a.1 (outcome.ByVerifying v e x)) any_text h
    ends_short (serving.ByListing d e h) =
        serves_short folder _ _ _ _ (listing_loading folder d) s r MayWrite
        (λ which name n u l. OfReading (read_line (Listing d) e which name n u l))
        files told (λ a x. OfOutcome a.1 (outcome.ByListing d e x)) any_text h
    ends_short (serving.ByMaking seed n e h) =
        serves_short (made_run seed n) _ _ _ _ (made_loading seed n) s r MayWrite
        (λ which name i q l. absurd (made_read which name seed n i q)) (made_files seed n) (λ name. refl)
        (λ a x. OfOutcome a.1 (outcome.ByMaking seed n e x)) any_text h

    -- after want of memory a prefix of a text was written that the run could write
    pub ends_prefix : Ends words folder s r → s ≡ status.NoMemory → WritesPrefix words files folder r
    ends_prefix h e = let x = ends_short h in record { text = x.0; could = x.1; written = x.2.prefix e }

    -- after a write fault a proper prefix of a text was written that the run could write
    pub ends_proper : Ends words folder s r → s ≡ status.WriteFault
        → WritesProperPrefix words files folder r
    ends_proper h e = let x = ends_short h in record { text = x.0; could = x.1; written = x.2.proper e }

-- a status that is usage or a write fault is no want of memory
has_memory : (s : Status) → (s ≡ status.Usage) ⊎ (s ≡ status.WriteFault) → s ≢ status.NoMemory
has_memory s (inl e) = λ m. other s _ _ (λ x. cc) e m
has_memory s (inr e) = λ m. other s _ _ (λ x. cc) e m

-- words that are no command are told so, where memory isn't wanting
pub refused_words : (s : Status) (r : SinkRun) → (s ≡ status.Usage) ⊎ (s ≡ status.WriteFault)
    → Tells (outcome.refusal_answer refusals.Usage) s r → RefusesWords s r
refused_words s r n t =
    told_status (outcome.refusal_answer refusals.Usage) s r (RefusesWords s r) t (λ m f. absurd (has_memory s n m))
    (λ m rose f. inr m) (λ m w. inl (m, w))

-- the run of an input under the name that a request has for it is that under the name that the words have
pub touched_by_request : (words : List (List ℕ)) (file : List ℕ → ToldFile) (q : Request) (w : Input) (r : InputRun)
    → accepts words ≡ Some q → TouchesBy file (file_named q w) r → TouchesNamed words file w r
touched_by_request words file q w r e h = by_name (file_named q w) refl h
  where
    by_name : (o : Option (List ℕ)) → file_named q w ≡ o → TouchesBy file o r → TouchesNamed words file w r
    by_name None i kept = inl kept
    by_name (Some name) i (inl kept) = inl kept
    by_name (Some name) i (inr read) =
        inr (record { request = q; accepted = e; name = name; has_name = i; read = read })

-- the inputs of a command over two files, and of a verification, each by its name
pub touched_by_command : (words : List (List ℕ)) (file : List ℕ → ToldFile) (d p : List ℕ) (j : Job) (w : Input)
    (r : InputRun) → accepts words ≡ Some (on_files d p j)
    → TouchesBy file (by_input w (Some d) (Some p) None) r → TouchesNamed words file w r
touched_by_command words file d p j inputs.Domain r e h =
    touched_by_request words file (on_files d p j) inputs.Domain r e h
touched_by_command words file d p j inputs.Problem r e h =
    touched_by_request words file (on_files d p j) inputs.Problem r e h
touched_by_command words file d p j inputs.Plan r e h =
    touched_by_request words file (on_files d p j) inputs.Plan r e h

pub touched_by_verification : (words : List (List ℕ)) (file : List ℕ → ToldFile) (v : Verification) (w : Input)
    (r : InputRun) → accepts words ≡ Some (Verifying v)
    → TouchesBy file (by_input w (Some v.domain) (Some v.problem) (Some v.plan)) r → TouchesNamed words file w r
touched_by_verification words file v inputs.Domain r e h =
    touched_by_request words file (Verifying v) inputs.Domain r e h
touched_by_verification words file v inputs.Problem r e h =
    touched_by_request words file (Verifying v) inputs.Problem r e h
touched_by_verification words file v inputs.Plan r e h =
    touched_by_request words file (Verifying v) inputs.Plan r e h

-- so it is with the one input of a listing
pub touched_by_listing : (words : List (List ℕ)) (file : List ℕ → ToldFile) (d : List ℕ) (w : Input) (r : InputRun)
    → accepts words ≡ Some (Listing d) → (w ≡ inputs.Domain → Touches (file d) r)
    → (w ≢ inputs.Domain → IsUntouched r) → TouchesNamed words file w r
touched_by_listing words file d inputs.Problem r e touched others = inl (others (λ x. cc))
touched_by_listing words file d inputs.Plan r e touched others = inl (others (λ x. cc))
touched_by_listing words file d inputs.Domain r e touched others = read (touched refl)
  where
    read : Touches (file d) r → TouchesNamed words file inputs.Domain r
    read (inl kept) = inl kept
    read (inr was) = inr (record { request = Listing d; accepted = e; name = d; has_name = refl; read = was })
