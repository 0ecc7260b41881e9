-- The reports of the walks of pairs.
use Rattle.std.proofs.Common.{◌≡◌, ℕ, ◌≤◌, ◌-◌, Bool, true, false, List, [], length, slice_get, Some, None, Result, Ok, Err, IfOk, refl, ap, sym, ◌∙◌, subst}
use Rattle.std.specs.List.{All}
use Rattle.hp_best.specs.Bounded.{NeverFalls, is_priced}
use Rattle.hp_code.specs.CodeViews.{CodeView, or_empty, rules_in, rules_of}
use Rattle.hp_net.specs.Standings.{Tree, Standing, standing, IsAtItsNode, tree_visits}
use Rattle.hp_laws.proofs.JoinLemmas.{all_one}
use Rattle.hp_out.specs.Writing.{SinkRun}
use Rattle.hp_out.specs.declared.refusal.Refusal.TheVariants as refusals
use Rattle.hp_plain.proofs.CandidateSteps.{holds_there}
use Rattle.hp_syntax.specs.GroundPatterns.{IsGroundPair}
use Rattle.hp_syntax.specs.declared.status.Status.{Status}
use Rattle.hp_syntax.specs.Report.{Answer, line_report, nothing_seen, plan_report, report}
use Rattle.hp_syntax.specs.Syntax as plain
use Rattle.hp_syntax.specs.Syntax.{Rule}
use Rattle.hp_syntax.specs.Walk.{Node, Visit, heard_visits, visits, root, node_at}
use Rattle.hp_top.specs.declared.pairs.Engine.{Engine}
use Rattle.hp_top.specs.declared.pairs.Engine.TheVariants.{Copies, InPlace}
use Rattle.hp_top.specs.declared.pairs.Sought.{Sought}
use Rattle.hp_top.specs.declared.pairs.Sought.TheVariants.{Plans, Cheapest, After, Derivation, Shallowest}
use Rattle.hp_top.specs.declared.pairs.Wanted.{Wanted}
use Rattle.hp_telling.specs.declared.planning.Detail.{Detail}
use Rattle.hp_telling.specs.declared.planning.Detail.TheVariants as details
use Rattle.hp_telling.specs.declared.halt.Halt.{Halt}
use Rattle.hp_words.specs.declared.words.Asked.{Asked}
use Rattle.hp_top.specs.Engines.{CanBeFound, IsOfOneTree, IsOnePair, IsSought, IsWanted, PlansBy, deepest, told_at, told_of_pairs, told_pair, told_visits, wanted_plans}
use Rattle.hp_top.specs.Outcome.{pair_answer, pair_visits, pairs_answer, plans_heard, line_heard, first_fault, job_answer, answer_of_read, refusal_answer, told_or}
use Rattle.hp_words.specs.Command.{Job, Options, greatest_depth, make_command}
use Rattle.hp_telling.specs.AfterReports.{after_report, heard_report}
use Rattle.hp_top.specs.ShallowReports.{shallow_report}
use Rattle.hp_telling.specs.Telling.{IsTold, telling}
use Rattle.hp_top.specs.Telling.{Tells, status_told}
use Rattle.hp_words.specs.Words.{IsPlanned, options_of}
use Rattle.hp_telling.proofs.ReportLemmas.{report_heard}
use Rattle.hp_top.proofs.PairSteps.{joined_last, tells_what_is_told}

-- the visits that are left at the root are at their nodes, where all visits of its tree are
pub all_at : (rules : List Rule) (nest : ℕ) (n : Node) (t : Tree) (s : Standing)
    → t ≡ record { rules = rules; nest = nest; root = n } → s ≡ standing [] (visits rules nest n []) false
    → All (λ v. node_at rules nest n v.path ≡ Some v.node) (visits rules nest n []) → All (IsAtItsNode t) s.rest
all_at rules nest n t s tree stands h =
    subst (λ t. All (IsAtItsNode t) s.rest) (sym tree)
    (subst (λ s. All (λ v. node_at rules nest n v.path ≡ Some v.node) s.rest) (sym stands) h)

-- a consequence of a fact of each Ok value follows for an Ok value
pub ok_weaker : {T E : Type 0} (P Q : T → Type 0) (r : Result T E) → IfOk r P → ((x : T) → P x → Q x) → IfOk r Q
ok_weaker P Q (Ok x) p f = f x p
ok_weaker P Q (Err e) p f = tt

-- and one of two facts
pub ok_both : {T E : Type 0} (P Q R : T → Type 0) (r : Result T E) → IfOk r P → IfOk r Q → ((x : T) → P x → Q x → R x)
    → IfOk r R
ok_both P Q R (Ok x) p q f = f x p q
ok_both P Q R (Err e) p q f = tt

-- at the root of a tree all its visits are left
pub new_walk : (rules : List Rule) (nest : ℕ) (n : Node) (t : Tree) (s : Standing)
    → t ≡ record { rules = rules; nest = nest; root = n } → s ≡ standing [] (visits rules nest n []) false
    → s.rest ≡ tree_visits t
new_walk rules nest n t s tree stands = ap (λ z. z.rest) stands ∙ sym (ap tree_visits tree)

-- the visits by the code of rules, where it reads back as rules with the same tree, are those by the rules
pub planned_left : (rules lowered : List Rule) (nest depth : ℕ) (p : plain.Pair) (c : CodeView) (s : Standing)
    → rules_of c ≡ Some lowered → visits lowered nest (root p depth) [] ≡ visits rules nest (root p depth) []
    → s ≡ standing [] (visits (rules_in c) nest (root p depth) []) false
    → s.rest ≡ pair_visits rules nest depth p
planned_left rules lowered nest depth p c s reads same stands =
    let read : rules_in c ≡ lowered = ap or_empty reads in
    ap (λ t. t.rest) stands ∙ ap (λ rs. visits rs nest (root p depth) []) read ∙ same

-- the report of visits is that of the visits that are heard
pub report_left : (tell : ℕ → Visit → List ℕ) (k : ℕ) (vs ws : List Visit) → heard_visits vs ≡ ws
    → report tell k nothing_seen vs ≡ report tell k nothing_seen ws
report_left tell k vs ws e = sym (report_heard tell k nothing_seen vs) ∙ ap (report tell k nothing_seen) e

-- what is told of pairs where the plans of a request are wanted is the answer to it
pub plans_wanted : (w : Wanted) (a : Asked) (rules : List Rule) (ps : List plain.Pair) → w ≡ wanted_plans a
    → told_of_pairs w rules ps ≡ pairs_answer (plans_heard a.plans (options_of a.options)) rules a.options.levels a.depth ps
unfolding plan_report
plans_wanted w a rules ps e = ap (λ (z : Wanted). told_of_pairs z rules ps) e

-- what a request wants can be looked for by an engine that goes to the depth that may be asked for
pub planned_wanted : (e : Engine) (w : Wanted) (a : Asked) → w ≡ wanted_plans a → IsPlanned a
    → deepest e ≡ greatest_depth (options_of a.options) → IsWanted e w
planned_wanted e w a same h deep =
    subst (IsWanted e) (sym same)
    (record { sought = h.plans; depth = subst (λ n. a.depth ≤ n) (sym deep) h.depth; levels = h.levels })

abbrev pub IsByCopies : Engine → Type 0
IsByCopies (Copies domain) = Unit {0}
IsByCopies (InPlace code) = ⊥

-- what the engine of copies can look for is of one tree
pub copies_one_tree : (e : Engine) (s : Sought) → IsByCopies e → IsSought e s → IsOfOneTree s
copies_one_tree e (Plans k detail) copies h = tt
copies_one_tree e (Cheapest priced) copies h = tt
copies_one_tree e (After k detail path) copies h = tt
copies_one_tree e (Derivation steps) copies h = tt
copies_one_tree (Copies domain) (Shallowest states) copies h = h
copies_one_tree (InPlace code) (Shallowest states) copies h = copies

-- what isn't the least depth is of one tree
pub other_one_tree : (s : Sought) → ((states : Bool) → s ≡ Shallowest states → ⊥) → IsOfOneTree s
other_one_tree (Plans k detail) n = tt
other_one_tree (Cheapest priced) n = tt
other_one_tree (After k detail path) n = tt
other_one_tree (Derivation steps) n = tt
other_one_tree (Shallowest states) n = n states refl

-- what an engine can look for in one tree can be looked for among the visits of a pair by its rules
pub can_be_found : (e : Engine) (s : Sought) (nest depth : ℕ) (p : plain.Pair) (vs : List Visit) → IsSought e s
    → IsOfOneTree s → ((rules : List Rule) → PlansBy rules e → vs ≡ pair_visits rules nest depth p)
    → ((rules : List Rule) (nest : ℕ) (n : Node) → is_priced rules ≡ true → NeverFalls (visits rules nest n []))
    → CanBeFound s vs
can_be_found e (Plans k detail) nest depth p vs h one same falls = h
can_be_found e (Cheapest priced) nest depth p vs h one same falls = λ is.
    let by = h is in
    subst NeverFalls (sym (same by.rules by.by)) (falls by.rules nest (root p depth) by.priced)
can_be_found e (After k detail path) nest depth p vs h one same falls = h
can_be_found e (Derivation steps) nest depth p vs h one same falls = tt
can_be_found e (Shallowest states) nest depth p vs h one same falls = one

-- what is told of one tree is told of the visits down to its depth
one_tree_told : (s : Sought) (n : ℕ) (at : ℕ → List Visit) (vs : List Visit) → IsOfOneTree s → vs ≡ at n
    → told_visits s vs ≡ told_at s n at
one_tree_told (Plans k detail) n at vs one e = ap (told_visits (Plans k detail)) e
one_tree_told (Cheapest priced) n at vs one e = ap (told_visits (Cheapest priced)) e
one_tree_told (After k detail path) n at vs one e = ap (told_visits (After k detail path)) e
one_tree_told (Derivation steps) n at vs one e = ap (told_visits (Derivation steps)) e
one_tree_told (Shallowest states) n at vs one e = absurd one

pub tree_told : (w : Wanted) (rules : List Rule) (p : plain.Pair) (vs : List Visit) → IsOfOneTree w.sought
    → vs ≡ pair_visits rules w.levels w.depth p → told_visits w.sought vs ≡ told_pair w rules p
tree_told w rules p vs one e = one_tree_told w.sought w.depth (λ n. pair_visits rules w.levels n p) vs one e

-- what is told of a pair where the least depth is sought
pub shallowest_told : (w : Wanted) (states : Bool) (rules : List Rule) (p : plain.Pair) → w.sought ≡ Shallowest states
    → told_pair w rules p ≡ shallow_report states w.depth (λ n. pair_visits rules w.levels n p)
shallowest_told w states rules p e = ap (λ s. told_at s w.depth (λ n. pair_visits rules w.levels n p)) e

-- what is told of a pair behind a path is the answer to a request for it
pub after_told : (detail : Detail) (k : ℕ) (o : Options) (p q : List ℕ) (nest depth number : ℕ) (rules : List Rule)
    (ps : List plain.Pair) → detail ≡ details.Steps o.states o.paths → p ≡ q
    → pair_answer (λ pair. after_report (heard_report (telling detail) k) p (pair_visits rules nest depth pair)) number ps
    ≡ pair_answer (λ pair. after_report (plans_heard k o) q (pair_visits rules nest depth pair)) number ps
unfolding plan_report
after_told detail k o p q nest depth number rules ps e f =
    ap (λ d. pair_answer (λ pair. after_report (heard_report (telling d) k) p (pair_visits rules nest depth pair)) number ps) e
    ∙ ap (λ r. pair_answer (λ pair. after_report (plans_heard k o) r (pair_visits rules nest depth pair)) number ps) f

-- what is told of one pair is told behind no line, and it is that of the pair that was found
pub one_told : (w : Wanted) (rules : List Rule) (number : ℕ) (ps one : List plain.Pair)
    → IsOnePair (slice_get ps (number - 1)) one → told_of_pairs w rules one ≡ pair_answer (told_pair w rules) number ps
one_told w rules number ps one h =
    ap (told_of_pairs w rules) h.2 ∙ joined_last (told_pair w rules h.0)
    ∙ ap (told_or (refusal_answer (refusals.NoPair number (length ps))) (told_pair w rules)) (sym h.1)

-- where there is no pair of a number, that is told
pub none_told : (w : Wanted) (rules : List Rule) (number count : ℕ) (ps : List plain.Pair)
    → slice_get ps (number - 1) ≡ None → count ≡ length ps
    → refusal_answer (refusals.NoPair number count) ≡ pair_answer (told_pair w rules) number ps
none_told w rules number count ps none same =
    ap (λ n. refusal_answer (refusals.NoPair number n)) same
    ∙ ap (told_or (refusal_answer (refusals.NoPair number (length ps))) (told_pair w rules)) (sym none)

-- the pair that was found is ground, where all are
pub one_ground : (ps one : List plain.Pair) (i : ℕ) → IsOnePair (slice_get ps i) one → All IsGroundPair ps
    → All IsGroundPair one
one_ground ps one i found h =
    subst (All IsGroundPair) (sym found.2) (all_one IsGroundPair found.0 (holds_there IsGroundPair ps i found.0 h found.1))

-- what is told of pairs, each by the line of its first plan, is the summary of them
pub lines_told : (nest depth : ℕ) (rules : List Rule) (ps : List plain.Pair)
    → told_of_pairs (record { sought = Plans 1 details.Line; depth = depth; levels = nest }) rules ps
    ≡ pairs_answer line_heard rules nest depth ps
unfolding line_report
lines_told nest depth rules ps = refl

-- a run tells an answer that is equal to what was told
pub tells_equal : (a b : Answer) (o : Result Status Halt) (s : Status) (r : SinkRun) → a ≡ b → s ≡ status_told o
    → IsTold a o r → Tells b s r
tells_equal a b o s r e same h =
    subst (λ s. Tells b s r) (sym same) (subst (λ a. Tells a (status_told o) r) e (tells_what_is_told a o r h))

-- a run tells an answer that is equal to one that it tells
pub tells_same : (a b : Answer) (s : Status) (r : SinkRun) → a ≡ b → Tells a s r → Tells b s r
tells_same a b s r e h = subst (λ a. Tells a s r) e h

-- where the checks find no fault, telling the answer of the job is telling that of the command
pub tells_read : (d : plain.Domain) (p : plain.Problem) (job j : Job) (s : Status) (r : SinkRun)
    → first_fault d p ≡ None → job ≡ j → Tells (job_answer j d p) s r
    → (domain problem : List ℕ) → Tells (answer_of_read (make_command domain problem job) d p) s r
tells_read d p job j s r none same t domain problem = rw (none, same) t
