-- The texts of the samples.
use Rattle.std.specs.Prelude.{ℕ, List, ◌++◌, codes}

abbrev pub basic_domain : List ℕ
basic_domain =
    codes "(defdomain basic (\n  (:operator (!pickup ?a) () () ((have ?a)))\n  (:operator (!drop ?a) "
    ++ codes "((have ?a)) ((have ?a)) ())\n  (:method (swap ?x ?y)\n    ((have ?x)) ((!drop ?x) (!pickup "
    ++ codes "?y))\n    ((have ?y)) ((!drop ?y) (!pickup ?x)))\n))\n"

abbrev pub swap_problem : List ℕ
swap_problem =
    codes "(defproblem p1 basic ((have kiwi)) ((swap banjo kiwi)))\n"

abbrev pub nothing_problem : List ℕ
nothing_problem =
    codes "(defproblem p basic () ())\n"

abbrev pub two_pairs_problem : List ℕ
two_pairs_problem =
    codes "(defproblem p basic ((have kiwi)) ((swap banjo kiwi)) () ())"

abbrev pub second_fails_problem : List ℕ
second_fails_problem =
    codes "(defproblem p basic ((have kiwi)) ((swap banjo kiwi)) () ((juggle)))"

abbrev pub focus_domain : List ℕ
focus_domain =
    codes "(defdomain f (\n(:operator (!a) () () ())\n(:operator (!b) () () ())\n(:operator (!c) () () "
    ++ codes "())\n(:method (x) () ((!a) (!b)))\n(:method (y) () ((!c)))))\n"

abbrev pub any_order_problem : List ℕ
any_order_problem =
    codes "(defproblem p f () (:unordered (x) (y)))"

abbrev pub immediate_problem : List ℕ
immediate_problem =
    codes "(defproblem p f () (:unordered (x) (:immediate y)))"

abbrev pub order_domain : List ℕ
order_domain =
    codes "(defdomain o (\n(:operator (!mark) () ((at a)) ((at a)))\n(:operator (!take ?y) () () ())\n"
    ++ codes "(:method (go) ((at ?y)) ((!take ?y)))))\n"

abbrev pub two_places_problem : List ℕ
two_places_problem =
    codes "(defproblem p o ((at a) (at b)) ((!mark) (go)))"

abbrev pub order_kept_domain : List ℕ
order_kept_domain =
    codes "(defdomain o (\n(:operator (!mark) () () ((at a)))\n(:operator (!take ?y) () () ())\n"
    ++ codes "(:method (go) ((at ?y)) ((!take ?y)))))\n"

abbrev pub guard_domain : List ℕ
guard_domain =
    codes "(defdomain g (\n(:operator (!guard) () () ((:protection (p))))\n(:operator (!kill) () ((p)) "
    ++ codes "())))\n"

abbrev pub guarded_problem : List ℕ
guarded_problem =
    codes "(defproblem p g ((p)) (:unordered (!guard) (!kill)))"

abbrev pub cancel_domain : List ℕ
cancel_domain =
    codes "(defdomain g (\n(:operator (!guard) () () ((:protection (p))))\n(:operator (!free) () "
    ++ codes "((:protection (p))) ())\n(:operator (!kill) () ((p)) ())))\n"

abbrev pub cancelled_once_problem : List ℕ
cancelled_once_problem =
    codes "(defproblem p g ((p)) ((!guard) (!guard) (!free) (!kill)))"

abbrev pub cancelled_twice_problem : List ℕ
cancelled_twice_problem =
    codes "(defproblem p g ((p)) ((!guard) (!guard) (!free) (!free) (!kill)))"

abbrev pub either_domain : List ℕ
either_domain =
    codes "(defdomain d ((:operator (!do ?x) () () ()) (:method (m) ((or (w ?x 1) (w ?x 1))) ((!do "
    ++ codes "?x)))))"

abbrev pub weights_twice_problem : List ℕ
weights_twice_problem =
    codes "(defproblem p d ((w a 3) (w b 1) (w c 3)) ((m)) ((w a 3) (w b 1) (w c 3)) ((m)))"

abbrev pub weights_problem : List ℕ
weights_problem =
    codes "(defproblem p d ((w a 3) (w b 1) (w c 3)) ((m)))"

abbrev pub sorted_domain : List ℕ
sorted_domain =
    codes "(defdomain d ((:operator (!do ?x) () () ()) (:method (m) (:sort-by ?n > ((w ?x ?n))) ((!do "
    ++ codes "?x)))))"

abbrev pub sorted_up_domain : List ℕ
sorted_up_domain =
    codes "(defdomain d ((:operator (!do ?x) () () ()) (:method (m) (:sort-by ?n < ((w ?x ?n))) ((!do "
    ++ codes "?x)))))"

abbrev pub first_domain : List ℕ
first_domain =
    codes "(defdomain d ((:operator (!do ?x) () () ()) (:method (m) (:first ((w ?x ?n))) ((!do ?x)))))"

abbrev pub sorted_unbound_domain : List ℕ
sorted_unbound_domain =
    codes "(defdomain d ((:operator (!do ?x) () () ()) (:method (m) (:sort-by ?k ((w ?x ?n))) ((!do "
    ++ codes "?x)))))"

abbrev pub sorted_names_domain : List ℕ
sorted_names_domain =
    codes "(defdomain d ((:operator (!do ?x) () () ()) (:method (m) (:sort-by ?x ((w ?x ?n))) ((!do "
    ++ codes "?x)))))"

abbrev pub sorted_cut_domain : List ℕ
sorted_cut_domain =
    codes "(defdomain d ((:operator (!do ?x) () () ()) (:- (q ?x) ((q ?x))) (:method (m) (:sort-by ?n "
    ++ codes "((or (w ?x ?n) (q a)))) ((!do ?x)))))"

abbrev pub quotient_domain : List ℕ
quotient_domain =
    codes "(defdomain d ((:operator (!do ?x) () () ()) (:method (m) ((w ?x ?n) (assign ?q (call / 6 "
    ++ codes "(call - ?n 1)))) ((!do ?x)))))"

abbrev pub named_cost_domain : List ℕ
named_cost_domain =
    codes "(defdomain d ((:operator (!x ?a) () () () ?a)))"

abbrev pub x_problem : List ℕ
x_problem =
    codes "(defproblem p d () ((!x b)))"

abbrev pub open_head_domain : List ℕ
open_head_domain =
    codes "(defdomain d ((:operator (!do ?x) () () ()) (:- (r ?x ?y) ((w ?x ?n))) (:method (m) ((r ?u "
    ++ codes "?v)) ((!do ?u)))))"

abbrev pub big_domain : List ℕ
big_domain =
    codes "(defdomain d ((:operator (!do ?x) () () ()) (:- (big ?x) ((w ?x ?n) (call > ?n 5)) ((w ?x "
    ++ codes "?n) (call > ?n 2))) (:method (m) ((big ?x)) ((!do ?x)))))"

abbrev pub hidden_domain : List ℕ
hidden_domain =
    codes "(defdomain d ((:operator (!do ?x) () () ()) (:- (big ?x) ((w ?x ?n) (call > ?n 2)) ((w ?x "
    ++ codes "?n))) (:method (m) ((big ?x)) ((!do ?x)))))"

abbrev pub endless_domain : List ℕ
endless_domain =
    codes "(defdomain d ((:operator (!do ?x) () () ()) (:- (q ?x) ((q ?x))) (:method (m) ((q a)) ((!do "
    ++ codes "a)))))"

abbrev pub not_endless_domain : List ℕ
not_endless_domain =
    codes "(defdomain d ((:operator (!do ?x) () () ()) (:- (q ?x) ((q ?x))) (:method (m) ((not (q a))) "
    ++ codes "((!do a)))))"

abbrev pub cut_branch_domain : List ℕ
cut_branch_domain =
    codes "(defdomain d ((:operator (!do ?x) () () ()) (:- (q ?x) ((q ?x))) (:method (m) ((q a)) ((!do "
    ++ codes "a)) () ((!do b)))))"

abbrev pub not_fault_domain : List ℕ
not_fault_domain =
    codes "(defdomain d ((:operator (!do ?x) () () ()) (:method (m) ((not ((w ?x ?n) (call < ?x 1)))) "
    ++ codes "((!do b)))))"

abbrev pub all_above_0_domain : List ℕ
all_above_0_domain =
    codes "(defdomain d ((:operator (!do ?x) () () ()) (:method (m) ((w ?x 1) (forall (?y) ((w ?y ?k)) "
    ++ codes "((call > ?k 0)))) ((!do ?x)))))"

abbrev pub all_above_1_domain : List ℕ
all_above_1_domain =
    codes "(defdomain d ((:operator (!do ?x) () () ()) (:method (m) ((w ?x 1) (forall (?y) ((w ?y ?k)) "
    ++ codes "((call > ?k 1)))) ((!do ?x)))))"

abbrev pub clear_domain : List ℕ
clear_domain =
    codes "(defdomain c (\n(:operator (!clear) () ((forall (?x) ((p ?x)) ((p ?x)))) ((done)))))\n"

abbrev pub clear_problem : List ℕ
clear_problem =
    codes "(defproblem p c ((p a) (q c) (p b)) ((!clear)))"

abbrev pub large_cost_domain : List ℕ
large_cost_domain =
    codes "(defdomain d ((:operator (!big) () () () 9223372036854775.807)))"

abbrev pub half_cost_domain : List ℕ
half_cost_domain =
    codes "(defdomain d ((:operator (!big) () () () 0.5)))"

abbrev pub big_problem : List ℕ
big_problem =
    codes "(defproblem p d () ((!big) (!big)))"

abbrev pub each_domain : List ℕ
each_domain =
    codes "(defdomain d ((:operator (!do ?x) () () ()) (:method (each (?h . ?t)) () ((!do ?h) (each "
    ++ codes "?t))) (:method (each ()) () ())))"

abbrev pub each_problem : List ℕ
each_problem =
    codes "(defproblem p d ((w a 3) (w b 1) (w c 3)) ((each (a b))))"

abbrev pub travel_domain : List ℕ
travel_domain =
    codes "; a trip on foot or by taxi\n(defdomain travel (\n  (:operator (!walk ?x ?y) ((at ?x)) ((at "
    ++ codes "?x)) ((at ?y)) 3)\n  (:operator (!call-taxi ?x) () () ((taxi-at ?x)))\n  (:operator (!ride "
    ++ codes "?x ?y) ((at ?x) (taxi-at ?x))\n    ((at ?x) (taxi-at ?x)) ((at ?y) (taxi-at ?y)) 4)\n  "
    ++ codes "(:operator (!pay ?old ?new) ((money ?old)) ((money ?old)) ((money ?new)) 0)\n  ; near "
    ++ codes "enough to walk\n  (:- (short ?x ?y) close ((distance ?x ?y ?d) (call <= ?d 2)))\n  (:method "
    ++ codes "(travel ?x ?y)\n    by-foot ((at ?x) (short ?x ?y)) ((!walk ?x ?y)))\n  (:method (travel ?x "
    ++ codes "?y)\n    by-taxi ((at ?x) (distance ?x ?y ?d) (money ?m)\n             (assign ?fare (call "
    ++ codes "+ 2 ?d)) (call >= ?m ?fare)\n             (assign ?left (call - ?m ?fare)))\n    "
    ++ codes "((!call-taxi ?x) (!ride ?x ?y) (!pay ?m ?left)))))\n"

abbrev pub trip_problem : List ℕ
trip_problem =
    codes "(defproblem trip travel\n  ((at home) (money 10) (distance home park 2))\n  ((travel home "
    ++ codes "park)))\n"

abbrev pub twelve_domain : List ℕ
twelve_domain =
    codes "(defdomain t ((:operator (!a) () () ()) (:operator (!b) () () ()) (:operator (!c) () () ()) "
    ++ codes "(:operator (!d) () () ()) (:operator (!e) () () ()) (:operator (!f) () () ()) (:operator "
    ++ codes "(!g) () () ()) (:operator (!h) () () ()) (:operator (!i) () () ()) (:operator (!j) () () "
    ++ codes "()) (:operator (!k) () () ()) (:operator (!l) () () ())))"

abbrev pub any_of_twelve_problem : List ℕ
any_of_twelve_problem =
    codes "(defproblem p t () (:unordered (!a) (!b) (!c) (!d) (!e) (!f) (!g) (!h) (!i) (!j) (!k) (!l)))"
