-- What is suspended ends no lower than it began, and goes on fitting where cells are added.
use Rattle.std.proofs.Common.{ℕ, ◌≤◌, length, arith}
use Rattle.hp_code.specs.CodeViews.{CodeView}
use Rattle.hp_suspended.specs.Fitting.{Fits, RunningFits, TowerFits, base_of}
use Rattle.hp_suspended.specs.Views.{View, One, Fresh, Simple, Search, Conj, Disj, RunningView, Idle, Under, Views, Bare, Above}
use Rattle.hp_suspended.proofs.CountLemmas.{filter_below_more, goal_below_more, slots_below_more}

module _ (c : CodeView) (cells : ℕ) where
  mutual
    -- what fits so many bindings began with no more
    pub rises : (bound : ℕ) (v : View) → Fits c cells bound v → base_of v ≤ bound
    rises bound (One m event) f = f
    rises bound (Fresh m n i) f = omega (arith, f.0)
    rises bound (Simple a) f = f.0
    rises bound (Search m n q at' k running) f = f.0
    rises bound (Conj m n k end outer here) f =
        omega (arith, tower_rises end m (base_of here) outer f.1, rises bound here f.2)
    rises bound (Disj m n k end here) f = omega (arith, f.1, rises bound here f.2)

    -- parts that fit begin with no more bindings than they end with
    pub tower_rises : (end lo hi : ℕ) (vs : Views) → TowerFits c cells end lo hi vs → lo ≤ hi
    tower_rises end lo hi Bare f = omega arith
    tower_rises end lo hi (Above lower k top) f =
        omega (arith, tower_rises end lo (base_of top) lower f.2, rises hi top f.3)

module _ (c : CodeView) (cells more : ℕ) (grown : cells ≤ more) where
  mutual
    -- what fits a count of cells fits a greater one
    pub fits_more : (bound : ℕ) (v : View) → Fits c cells bound v → Fits c more bound v
    fits_more bound (One m event) f = f
    fits_more bound (Fresh m n i) f = f
    fits_more bound (Simple a) f = (f.0, f.1, filter_below_more cells more a.filter grown f.2)
    fits_more bound (Search m n q at' k running) f =
        (f.0, goal_below_more cells more q grown f.1, running_fits_more n running f.2)
    fits_more bound (Conj m n k end outer here) f =
        (f.0, tower_fits_more end m (base_of here) outer f.1, fits_more bound here f.2)
    fits_more bound (Disj m n k end here) f = (f.0, f.1, fits_more bound here f.2)

    -- an axiom that is looked at and fits a count of cells fits a greater one
    pub running_fits_more : (n : ℕ) (r : RunningView) → RunningFits c cells n r → RunningFits c more n r
    running_fits_more n Idle f = f
    running_fits_more n (Under head own start k end here) f = (
      f.0,
      f.1,
      f.2,
      slots_below_more cells more own grown f.3,
      f.4,
      fits_more (length own.trail) here f.5,
    )

    -- parts that fit a count of cells fit a greater one
    pub tower_fits_more : (end lo hi : ℕ) (vs : Views) → TowerFits c cells end lo hi vs
        → TowerFits c more end lo hi vs
    tower_fits_more end lo hi Bare f = f
    tower_fits_more end lo hi (Above lower k top) f =
        (f.0, f.1, tower_fits_more end lo (base_of top) lower f.2, fits_more hi top f.3)
