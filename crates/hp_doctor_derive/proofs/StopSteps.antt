-- A walk along a plan by the code of a domain is one of the domain's tree.
use Rattle.std.proofs.Common.{◌≡◌, ℕ, List, [], Some, refl, sym, ap, ap₂, ◌∙◌, subst}
use Rattle.std.specs.Prelude.{Contains}
use Rattle.hp_code.specs.Lowered.{lowered_rules}
use Rattle.hp_dead_ends.specs.DeadEnds.{with_root}
use Rattle.hp_doctor_why.specs.Reasons.{lowered_tree}
use Rattle.hp_following.specs.declared.following.Following.{Following}
use Rattle.hp_following.specs.Follows.{CameTo, HasMost, HasNoMoreAt, IsFollowed, IsFollowing, IsUnderived, begun, end_of, followed, said_of}
use Rattle.hp_net.specs.Standings.{Tree, tree_visits}
use Rattle.hp_syntax.specs.Syntax.{Rule}
use Rattle.hp_syntax.specs.Terms.{Term}
use Rattle.hp_syntax.specs.Walk.{Node, Visit, visits}
use Rattle.hp_verify.specs.Kept.{kept, told_kept}

module _ (same : (rules : List Rule) (nest : ℕ) (n : Node) (p : List ℕ)
    → visits (lowered_rules rules) nest n p ≡ visits rules nest n p) (p : List Term) (t s : Tree)
    (is : s ≡ lowered_tree t) where
  -- it has the visits of the tree
  same_visits : tree_visits s ≡ tree_visits t
  same_visits = ap tree_visits is ∙ same t.rules t.nest t.root []

  same_root : s.root ≡ t.root
  same_root = ap (λ (x : Tree). x.root) is

  same_followed : followed p s ≡ followed p t
  same_followed =
      ap₂ (λ (r : Node) (vs : List Visit). with_root r (begun p (kept p vs))) same_root same_visits

  same_said : said_of p s ≡ said_of p t
  same_said = ap (λ (vs : List Visit). (told_kept p vs).said) same_visits

  -- so what is told of it is told of the tree
  pub following_over : (f : Following) → IsFollowing p s f → IsFollowing p t f
  following_over f h = record {
    end = h.end ∙ ap end_of same_said;
    visit = h.visit;
    came =
        subst (λ x. CameTo (followed p t) x h.visit) same_said
        (subst (λ ds. CameTo ds (said_of p s) h.visit) same_followed h.came);
    path = h.path;
    steps = h.steps;
  }

  pub most_over : (f : Following) → HasMost p s f → HasMost p t f
  most_over f h = subst (λ (vs : List Visit). HasNoMoreAt f.end p f.steps vs) same_visits h

  pub followed_over : (path : List ℕ) → IsFollowed p s path → IsFollowed p t path
  followed_over path h = record {
    visit = h.visit;
    within = subst (λ ds. Contains ds h.visit) same_followed h.within;
    is_told = h.is_told;
  }

  pub followed_back : (path : List ℕ) → IsFollowed p t path → IsFollowed p s path
  followed_back path h = record {
    visit = h.visit;
    within = subst (λ ds. Contains ds h.visit) (sym same_followed) h.within;
    is_told = h.is_told;
  }
