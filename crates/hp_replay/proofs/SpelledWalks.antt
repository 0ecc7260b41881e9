-- The steps of a walk are spelled, whatever texts its rules and its pair are read of.
use Rattle.std.proofs.Common.{ℕ, List, [], arith, Bool, ◌≡◌, false, ◌&&◌}
use Rattle.std.specs.List.{All}
use Rattle.std.proofs.lemmas.List.Elements.{All-nil, All-map, All-weaker}
use Rattle.hp_syntax.specs.declared.limits.TheConstants.{DEEPEST_TERM}
use Rattle.hp_syntax.specs.Grammar.{domain_form, problem_form}
use Rattle.hp_syntax.specs.TextForms.{IsRead}
use Rattle.hp_syntax.specs.GroundPatterns.{term_said, terms_said, atom_said, atoms_said, network_said, networks_said}
use Rattle.hp_syntax.specs.Syntax as syntax
use Rattle.hp_syntax.specs.Walk.{is_fault_here, root, visits, walk}
use Rattle.hp_laws.proofs.PlainLemmas.{read_problem_is_plain}
use Rattle.hp_laws.specs.Plain.{IsPlainAtom, ArePlainTasks, IsPlainTaskList, IsPlainPair}
use Rattle.hp_laws.proofs.HearingLemmas.{all_up_to}
use Rattle.hp_replay.specs.StrayCalls.{stray_calls}
use Rattle.hp_replay.proofs.SpelledForms.{read_rules_spelled, read_pairs_spelled}
use Rattle.hp_replay.proofs.SpelledSyntax.{AreSpelledPatterns, AreSpelledTasks, IsSpelledAtom, IsSpelledList, IsSpelledPair, IsSpelledPattern, IsSpelledRule, IsSpelledStep, IsSpelledTaskList, IsSpelledTerm}
use Rattle.hp_replay.proofs.SpelledTrees.{IsSpelledNetwork, AreSpelledNetworks, IsSpelledNode, added_spelled, normal_spelled, visits_spelled}

module _ (free : Bool) where
  -- what a pattern says as it stands is spelled
  mutual
    unfolding term_said terms_said

    said_spelled : (p : syntax.Pattern) → IsSpelledPattern free p → IsSpelledTerm free (term_said p)
    said_spelled (syntax.Variable s v) h = tt
    said_spelled (syntax.Symbol s name) h = h
    said_spelled (syntax.Number s n) h = h
    said_spelled (syntax.Listing s ps tail) h = all_said_spelled ps h
    said_spelled (syntax.Call s name args) h = tt

    -- what patterns say is spelled
    all_said_spelled : (ps : syntax.Patterns) → AreSpelledPatterns free ps → IsSpelledList free (terms_said ps)
    all_said_spelled syntax.NoPattern h = tt
    all_said_spelled (syntax.Before p ps) h = (said_spelled p h.0, all_said_spelled ps h.1)

  -- what an atom says is spelled
  atom_said_spelled : (a : syntax.Atom) → IsSpelledAtom free a → IsSpelledTerm free (atom_said a)
  atom_said_spelled a h = (h.word, all_said_spelled a.args h.args)

  -- a plain task that is spelled is a step, whether an operator does it or not
  task_said : (a : syntax.Atom) → IsSpelledAtom free a → IsPlainAtom DEEPEST_TERM a → IsSpelledStep free (atom_said a)
  task_said a h k = record {
    named = h.plain;
    spelled = atom_said_spelled a h;
    shallow = let l = k.shallow in omega arith;
  }

  mutual
    unfolding network_said networks_said

    -- the network that plain tasks say has steps alone
    network_said_spelled : (t : syntax.Tasks) → AreSpelledTasks free t → ArePlainTasks DEEPEST_TERM t
        → IsSpelledNetwork free (network_said t)
    network_said_spelled (syntax.Task a i) h k = task_said a h k
    network_said_spelled (syntax.Ordered ts) h k = networks_said_spelled ts h k
    network_said_spelled (syntax.Unordered ts) h k = networks_said_spelled ts h k

    -- so has what a list of them says
    networks_said_spelled : (ts : syntax.TaskList) → IsSpelledTaskList free ts → IsPlainTaskList DEEPEST_TERM ts
        → AreSpelledNetworks free (networks_said ts)
    networks_said_spelled syntax.NoTasks h k = tt
    networks_said_spelled (syntax.Then t ts) h k =
        (network_said_spelled t h.0 k.0, networks_said_spelled ts h.1 k.1)

  -- the root of a pair is spelled
  root_spelled : (p : syntax.Pair) (d : ℕ) → IsSpelledPair free p → IsPlainPair DEEPEST_TERM p
      → IsSpelledNode free (root p d)
  unfolding root
  root_spelled p d h k = record {
    state =
        added_spelled free [] (atoms_said p.state) (All-nil (IsSpelledTerm free))
        (All-map (IsSpelledTerm free) atom_said p.state
        (All-weaker (IsSpelledAtom free) (λ a. IsSpelledTerm free (atom_said a)) atom_said_spelled p.state h.state));
    network = normal_spelled free (network_said p.tasks) (network_said_spelled p.tasks h.tasks k.tasks);
    steps = All-nil (IsSpelledStep free);
  }

  -- the steps of each visit of a walk are spelled
  pub walk_steps : (rules : List syntax.Rule) (nest : ℕ) (p : syntax.Pair) (d : ℕ) → All (IsSpelledRule free) rules
      → IsSpelledPair free p → IsPlainPair DEEPEST_TERM p
      → All (λ v. All (IsSpelledStep free) v.node.steps) (walk rules nest p d)
  unfolding walk
  walk_steps rules nest p d r h k =
      all_up_to (λ v. is_fault_here v.sight) (λ v. All (IsSpelledStep free) v.node.steps)
      (visits rules nest (root p d) [])
      (All-weaker (λ v. IsSpelledNode free v.node) (λ v. All (IsSpelledStep free) v.node.steps) (λ v n. n.steps)
      (visits rules nest (root p d) []) (visits_spelled free rules r nest (root p d) [] (root_spelled p d h k)))

  -- so are those of each walk of a domain and a problem that are read
  pub read_steps : (domain problem : List ℕ) (d : syntax.Domain) (p : syntax.Problem) (nest depth : ℕ)
      → (r : IsRead domain_form domain d) → (s : IsRead problem_form problem p)
      → free && stray_calls r.forest ≡ false → free && stray_calls s.forest ≡ false
      → All (λ pair. All (λ v. All (IsSpelledStep free) v.node.steps) (walk d.rules nest pair depth)) p.pairs
  read_steps domain problem d p nest depth r s h k =
      λ i x l.
      walk_steps d.rules nest _ depth (read_rules_spelled free domain d r h)
      (read_pairs_spelled free problem p s k i x l) (read_problem_is_plain problem p s i x l)
