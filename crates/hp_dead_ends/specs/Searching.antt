-- What a search for dead ends knows, and what one visit makes of it.
use Rattle.std.specs.Prelude.{◌≡◌, ◌⊎◌, ℕ, ◌+◌, Bool, true, false, not, ◌&&◌, nat_le, nat_lt, cond, List, [], ◌∷◌, ◌++◌, length, map, take, Option, Some, None}
use Rattle.std.specs.List.{All, Any}
use Rattle.hp_after.specs.Stepping.{Follows}
use Rattle.hp_passes.specs.declared.passing.Turn.{Turn}
use Rattle.hp_passes.specs.declared.passing.Turn.TheVariants.{On, Last}
use Rattle.hp_syntax.specs.Walk.{Sight, Did, Plan, CutHere, FaultHere, Node, Visit, begins, count_told, told, visit}
use Rattle.hp_dead_ends.specs.declared.searching.DeadEnds.{DeadEnds}
use Rattle.hp_dead_ends.specs.declared.searching.Rank as declared
use Rattle.hp_dead_ends.specs.declared.searching.SearchEnd.{SearchEnd}
use Rattle.hp_dead_ends.specs.declared.searching.SearchEnd.TheVariants as ends
use Rattle.hp_dead_ends.specs.declared.searching.Seeking.{Seeking}
use Rattle.hp_dead_ends.specs.DeadEnds as dead
use Rattle.hp_dead_ends.specs.DeadEnds.{Rank, rank, rank_of, is_further, is_depth_cut, is_level_cut}
use Rattle.hp_dead_ends.specs.Finding.{Told, items_of, told_of, told_at, path_told}

-- ---- what a search knows

-- the last decomposition, and whether no visit came after it; the dead ends before it, and what was seen besides
pub record Known : Type 0 where
  pub last : Visit
  pub is_open : Bool
  pub ends : List Visit
  pub depth_cut : Option Visit
  pub level_cut : Option Visit
  pub end : SearchEnd
  pub expansions : ℕ

-- at the root
abbrev pub at_root : Node → Known
at_root root = record {
  last = visit [] root Did;
  is_open = true;
  ends = [];
  depth_cut = None;
  level_cut = None;
  end = ends.Whole;
  expansions = 0;
}

-- the last decomposition is a dead end, where no visit came after it and this is over
abbrev pub closed : Bool → Known → Known
closed is_over k = record k { is_open = false; ends = k.ends ++ cond (k.is_open && is_over) (k.last ∷ []) [] }

-- the first of two visits, where there are any
abbrev pub first_of : {A : Type 0} → Option A → Option A → Option A
first_of (Some v) o = Some v
first_of None o = o

-- the last decomposition is one more dead end
abbrev pub with_end_here : Known → Known
with_end_here k = record k { ends = k.ends ++ k.last ∷ [] }

-- a visit where a test holds
abbrev pub seen_if : (Visit → Bool) → Visit → Option Visit
seen_if p v = cond (p v) (Some v) None

abbrev pub with_did : Visit → Known → Known
with_did v k = record k { last = v; is_open = true; expansions = k.expansions + 1 }

abbrev pub with_cut : Visit → Known → Known
with_cut v k = record k {
  depth_cut = first_of k.depth_cut (seen_if is_depth_cut v);
  level_cut = first_of k.level_cut (seen_if is_level_cut v);
  end = ends.Cut;
}

abbrev pub with_end : SearchEnd → Known → Known
with_end e k = record k { end = e }

-- what a visit tells besides
abbrev pub noted : Visit → Known → Known
noted v k =
    elim v.sight [
      | Did ↦ with_did v k
      | Plan ↦ with_end ends.Plan k
      | CutHere ↦ with_cut v k
      | FaultHere f ↦ with_end (ends.Fault f) k
    ]

-- what is known after a visit: the last decomposition is over where the visit doesn't lie at or below it
abbrev pub after : Known → Visit → Known
after k v = noted v (closed (not (begins k.last.path v.path)) k)

abbrev pub after_all : Known → List Visit → Known
after_all k [] = k
after_all k (v ∷ vs) = after_all (after k v) vs

-- ---- one visit

-- a visit steps on from the last decomposition: another decomposition stands one number below a beginning of its path,
-- and any other visit at a beginning
pub record StepsOn (p : List ℕ) (v : Visit) : Type 0 where
  pub follows : Follows v.sight v.path p
  pub other : v.sight ≡ Did → v.path ≡ p → ⊥

-- so a decomposition is over, by the lengths of the visit's path and of its own
abbrev pub is_over : Sight → ℕ → ℕ → Bool
is_over Did here last = nat_le here last
is_over Plan here last = nat_lt here last
is_over CutHere here last = nat_lt here last
is_over (FaultHere f) here last = nat_lt here last

abbrev pub turn_at : Sight → Turn
turn_at Did = On
turn_at Plan = Last
turn_at CutHere = On
turn_at (FaultHere f) = Last

abbrev pub as_rank : declared.Rank → Rank
as_rank r = rank r.steps r.decompositions

-- no dead end came further than a rank, and one came as far where any did
pub record IsTop (r : Rank) (ds : List Visit) : Type 0 where
  pub none : All (λ w. is_further (rank_of w) r ≡ false) ds
  pub some : ((ds ≡ []) × (r ≡ rank 0 0)) ⊎ Any (λ w. rank_of w ≡ r) ds

-- what was found so far is what is to be told of what is known, at most so many of the furthest
pub record TellsFound (most : ℕ) (f : DeadEnds) (k : Known) : Type 0 where
  pub furthest : map told_of f.furthest.items ≡ map told_at (take most (dead.furthest k.ends))
  pub as_far : f.as_far ≡ count_told (length (dead.furthest k.ends))
  pub all : f.all ≡ count_told (length k.ends)
  pub depth_cut : items_of f.depth_cut ≡ path_told k.depth_cut
  pub level_cut : items_of f.level_cut ≡ path_told k.level_cut
  pub end : f.end ≡ k.end
  pub expansions : f.expansions ≡ count_told k.expansions

-- a search tells what is known
pub record Tells (s : Seeking) (k : Known) : Type 0 where
  pub path : s.path.items ≡ told k.last.path
  pub steps : s.steps ≡ length k.last.node.steps
  pub is_open : s.is_open ≡ k.is_open
  pub best : IsTop (as_rank s.best) k.ends
  pub found : TellsFound s.most s.found k

-- nothing more is asked of what is known
abbrev pub any_known : Known → Type 0
any_known k = Unit {0}

-- one more behind others, where they aren't so many already
abbrev pub one_more : ℕ → List Told → Told → List Told
one_more most ts t = cond (nat_le most (length ts)) ts (ts ++ t ∷ [])

abbrev pub told_as : List ℕ → ℕ → Told
told_as p steps = record { path = p; rank = rank steps (length p) }

-- the last decomposition is told behind others, and nothing else changes
pub record TellsOneMore (s t : Seeking) : Type 0 where
  pub same : t ≡ record s { found = record s.found { furthest = t.found.furthest } }
  pub more : map told_of t.found.furthest.items
      ≡ one_more s.most (map told_of s.found.furthest.items) (told_as s.path.items s.steps)

-- what a search was asked stays
pub record IsKept (s t : Seeking) : Type 0 where
  pub depth : t.depth ≡ s.depth
  pub most : t.most ≡ s.most

-- a search that tells what is known tells what is known then
pub record Goes (s t : Seeking) (f : Known → Known) (P : Known → Type 0) : Type 0 where
  pub kept : IsKept s t
  pub tells : (k : Known) → P k → Tells s k → Tells t (f k)

-- a visit that steps on, at a node that has the depth that its path leaves
pub record Fits (s : Seeking) (v : Visit) (k : Known) : Type 0 where
  pub steps_on : StepsOn k.last.path v
  pub depth : v.node.depth + length v.path ≡ s.depth

pub record MeetsSeeking (s : Seeking) (c : Unit {0}) (v : Visit) (x : Turn) (t : Seeking) (d : Unit {0}) : Type 0 where
  pub turn : x ≡ turn_at v.sight
  pub goes : Goes s t (λ k. after k v) (Fits s v)
