-- From a variant's parts to what is suspended, and back.
use Rattle.std.proofs.Common.{◌≡◌, ℕ, ◌+◌, List, length, max, refl, ap, sym, ◌∙◌, subst, Option, Vec, Box, Global, arith}
use Rattle.hp_syntax.specs.Terms.{Term}
use Rattle.hp_eval.specs.declared.event.Event.{Event}
use Rattle.hp_eval.specs.declared.goals.Goal.{Goal}
use Rattle.hp_eval.specs.Slotted.{Slotted}
use Rattle.hp_suspended.specs.declared.scene.Scene.{Scene}
use Rattle.hp_suspended.specs.declared.suspended.Part.{Part}
use Rattle.hp_suspended.specs.declared.suspended.Running.{Running}
use Rattle.hp_suspended.specs.declared.suspended.Suspended.{Suspended}
use Rattle.hp_suspended.specs.declared.suspended.Suspended.TheViews as made
use Rattle.hp_suspended.specs.Answering.{GivesOver, GoesOn, Keeps, KeepsPair, Moves, pair_left, pair_weight}
use Rattle.hp_suspended.specs.Branching.{search_weight}
use Rattle.hp_suspended.specs.Fitting.{base_of, weight, node_weight}
use Rattle.hp_suspended.specs.Left.{left}
use Rattle.hp_suspended.specs.SceneViews.{code_in}
use Rattle.hp_suspended.specs.Views.{Conj, Disj, Search, running_view, view, views}
use Rattle.hp_suspended.proofs.GoingOn.{goes_through}
use Rattle.hp_suspended.proofs.Shapes.{view_conj, view_disj, view_search}

module _ (self : Suspended) where
  module _ (m n0 k e : ℕ) (o : Vec Part Global) (h : Box Suspended Global) (is : self ≡ made.Conj m n0 k e o h)
      (mr n kr er : ℕ) (or : Vec Part Global) (hr : Box Suspended Global)
      (mi : mr ≡ m) (ni : n ≡ n0) (ki : kr ≡ k) (ei : er ≡ e) (oi : or ≡ o) (hi : hr ≡ h)
      (here : Suspended) (at' : here ≡ hr.value) where
    -- a conjunction as it was
    pub conj_was : view self ≡ Conj mr n kr er (views or.items) (view here)
    conj_was = ap view is ∙ view_conj m n0 k e o h ∙ rw (mi, ni, ki, ei, oi, at', hi) refl

    -- which weighs more than its parts
    pub conj_weighs : (nodes : ℕ) → weight nodes (view self) ≡ 2 + pair_weight nodes n kr (views or.items) (view here)
    conj_weighs nodes = ap (weight nodes) conj_was

    module _ (s : Scene) (x : Event) (cells : List Term) (old new : Slotted) (k1 : ℕ) (o1 : Vec Part Global)
        (h1 : Box Suspended Global) where
      -- it gives what its running part and those below it give
      pub conj_gives : GivesOver s cells new x (λ w. pair_left w n kr er old (views or.items) (view here))
          (λ w. pair_left w n k1 er new (views o1.items) (view h1.value))
          → GivesOver s cells new x (λ w. left w old (view self)) (λ w. left w new (view (made.Conj mr n k1 er o1 h1)))
      conj_gives g = λ terms grown. rw (conj_was, view_conj mr n k1 er o1 h1) (g terms grown)

      -- it keeps what they keep
      pub conj_keeps : GoesOn x (KeepsPair (code_in s) (length cells) n mr er new kr k1 (views or.items)
          (views o1.items)
          (view here) (view h1.value))
          → GoesOn x (Keeps (code_in s) (length cells) new (view self) (view (made.Conj mr n k1 er o1 h1)))
      conj_keeps = goes_through x _ _ (λ p. rw (conj_was, view_conj mr n k1 er o1 h1) (record {
        start = refl;
        fits = p.fits;
        lighter = let l = p.lighter in omega arith;
      }))

      -- and has the same start
      pub conj_start : base_of (view (made.Conj mr n k1 er o1 h1)) ≡ base_of (view self)
      conj_start = ap base_of (view_conj mr n k1 er o1 h1) ∙ sym (ap base_of conj_was)

      -- its call moves what theirs moves
      pub conj_call_moves : (before : List Term) → Moves mr before cells old new
          → Moves (base_of (view self)) before cells old new
      conj_call_moves before v = subst (λ j. Moves j before cells old new) (sym (ap base_of conj_was)) v

  module _ (m n0 k e : ℕ) (h : Box Suspended Global) (is : self ≡ made.Disj m n0 k e h)
      (mr n kr er : ℕ) (hr : Box Suspended Global)
      (mi : mr ≡ m) (ni : n ≡ n0) (ki : kr ≡ k) (ei : er ≡ e) (hi : hr ≡ h)
      (here : Suspended) (at' : here ≡ hr.value) where
    -- a disjunction as it was
    pub disj_was : view self ≡ Disj mr n kr er (view here)
    disj_was = ap view is ∙ view_disj m n0 k e h ∙ rw (mi, ni, ki, ei, at', hi) refl

    -- which weighs more than its parts
    pub disj_weighs : (nodes : ℕ) → weight nodes (view self) ≡ 2 + max (weight nodes (view here))
        (node_weight nodes n kr)
    disj_weighs nodes = ap (weight nodes) disj_was

    module _ (s : Scene) (x : Event) (cells : List Term) (old new : Slotted) (k1 : ℕ) (h1 : Box Suspended Global) where
      -- it gives what is told of its parts
      pub disj_gives : GivesOver s cells new x (λ w. left w old (Disj mr n kr er (view here)))
          (λ w. left w new (Disj mr n k1 er (view h1.value)))
          → GivesOver s cells new x (λ w. left w old (view self)) (λ w. left w new (view (made.Disj mr n k1 er h1)))
      disj_gives g = λ terms grown. rw (disj_was, view_disj mr n k1 er h1) (g terms grown)

      -- it keeps what they keep
      pub disj_keeps : GoesOn x (Keeps (code_in s) (length cells) new (Disj mr n kr er (view here))
          (Disj mr n k1 er (view h1.value)))
          → GoesOn x (Keeps (code_in s) (length cells) new (view self) (view (made.Disj mr n k1 er h1)))
      disj_keeps = goes_through x _ _ (λ p. rw (disj_was, view_disj mr n k1 er h1) p)

      -- and has the same start
      pub disj_start : base_of (view (made.Disj mr n k1 er h1)) ≡ base_of (view self)
      disj_start = ap base_of (view_disj mr n k1 er h1) ∙ sym (ap base_of disj_was)

      -- its call moves what theirs moves
      pub disj_call_moves : (before : List Term) → Moves mr before cells old new
          → Moves (base_of (view self)) before cells old new
      disj_call_moves before v = subst (λ j. Moves j before cells old new) (sym (ap base_of disj_was)) v

  module _ (m n0 : ℕ) (q : Goal) (i r : ℕ) (o : Option (Box Running Global)) (is : self ≡ made.Search m n0 q i r o)
      (mr n : ℕ) (qr : Goal) (ir rr : ℕ) (or : Option (Box Running Global))
      (mi : mr ≡ m) (ni : n ≡ n0) (qi : qr ≡ q) (ii : ir ≡ i) (ri : rr ≡ r) (oi : or ≡ o) where
    -- an atom as it was
    pub search_was : view self ≡ Search mr n qr ir rr (running_view or)
    search_was = ap view is ∙ view_search m n0 q i r o ∙ rw (mi, ni, qi, ii, ri, oi) refl

    -- which weighs more than its parts
    pub search_weighs : (nodes : ℕ) → weight nodes (view self) ≡ 2 + search_weight nodes n (running_view or)
    search_weighs nodes = ap (weight nodes) search_was

    module _ (s : Scene) (x : Event) (cells : List Term) (old new : Slotted) (i1 r1 : ℕ)
        (o1 : Option (Box Running Global)) where
      -- it gives what is told of its parts
      pub search_gives : GivesOver s cells new x (λ w. left w old (Search mr n qr ir rr (running_view or)))
          (λ w. left w new (Search mr n qr i1 r1 (running_view o1)))
          → GivesOver s cells new x (λ w. left w old (view self))
          (λ w. left w new (view (made.Search mr n qr i1 r1 o1)))
      search_gives g = λ terms grown. rw (search_was, view_search mr n qr i1 r1 o1) (g terms grown)

      -- it keeps what they keep
      pub search_keeps : GoesOn x (Keeps (code_in s) (length cells) new (Search mr n qr ir rr (running_view or))
          (Search mr n qr i1 r1 (running_view o1)))
          → GoesOn x (Keeps (code_in s) (length cells) new (view self) (view (made.Search mr n qr i1 r1 o1)))
      search_keeps = goes_through x _ _ (λ p. rw (search_was, view_search mr n qr i1 r1 o1) p)

      -- and has the same start
      pub search_start : base_of (view (made.Search mr n qr i1 r1 o1)) ≡ base_of (view self)
      search_start = ap base_of (view_search mr n qr i1 r1 o1) ∙ sym (ap base_of search_was)

      -- its call moves what theirs moves
      pub search_call_moves : (before : List Term) → Moves mr before cells old new
          → Moves (base_of (view self)) before cells old new
      search_call_moves before v = subst (λ j. Moves j before cells old new) (sym (ap base_of search_was)) v
