-- The forests that the texts of the samples spell.
use Rattle.std.proofs.Common.{ℕ, ℤ, pos, List, [], ◌∷◌, codes, refl}
use Rattle.hp_syntax.specs.Text.{spelling_of}
use Rattle.hp_syntax.specs.Forest.{Node, Word, Numeral, Group, Forest, Bare, Grow, IsForest}
use Rattle.hp_syntax.proofs.Spelled.{tested}
use Rattle.hp_samples.specs.Texts as texts

abbrev pub grown : List Node → Forest
grown [] = Bare
grown (n ∷ ns) = Grow n (grown ns)

-- a word, a number and a list, between two offsets
abbrev pub word : ℕ → ℕ → List ℕ → Node
word from to name = Word (record { from = from; to = to }) name

abbrev pub number : ℕ → ℕ → ℤ → Node
number from to n = Numeral (record { from = from; to = to }) n

abbrev pub list : ℕ → ℕ → List Node → Node
list from to parts = Group (record { from = from; to = to }) (grown parts)

abbrev pub basic_domain_forest : Forest
basic_domain_forest =
    grown ((list 0 227 ((word 1 10 (codes "defdomain")) ∷ (word 11 16 (codes "basic")) ∷ (list 17 226 ((list 21
    63 ((word 22 31 (codes ":operator")) ∷ (list 32 44 ((word 33 40 (codes "!pickup")) ∷ (word 41 43 (codes
    "?a")) ∷ [])) ∷ (list 45 47 ([])) ∷ (list 48 50 ([])) ∷ (list 51 62 ((list 52 61 ((word 53 57 (codes
    "have")) ∷ (word 58 60 (codes "?a")) ∷ [])) ∷ [])) ∷ [])) ∷ (list 66 115 ((word 67 76 (codes ":operator")) ∷
    (list 77 87 ((word 78 83 (codes "!drop")) ∷ (word 84 86 (codes "?a")) ∷ [])) ∷ (list 88 99 ((list 89 98
    ((word 90 94 (codes "have")) ∷ (word 95 97 (codes "?a")) ∷ [])) ∷ [])) ∷ (list 100 111 ((list 101 110 ((word
    102 106 (codes "have")) ∷ (word 107 109 (codes "?a")) ∷ [])) ∷ [])) ∷ (list 112 114 ([])) ∷ [])) ∷ (list 118
    224 ((word 119 126 (codes ":method")) ∷ (list 127 139 ((word 128 132 (codes "swap")) ∷ (word 133 135 (codes
    "?x")) ∷ (word 136 138 (codes "?y")) ∷ [])) ∷ (list 144 155 ((list 145 154 ((word 146 150 (codes "have")) ∷
    (word 151 153 (codes "?x")) ∷ [])) ∷ [])) ∷ (list 156 181 ((list 157 167 ((word 158 163 (codes "!drop")) ∷
    (word 164 166 (codes "?x")) ∷ [])) ∷ (list 168 180 ((word 169 176 (codes "!pickup")) ∷ (word 177 179 (codes
    "?y")) ∷ [])) ∷ [])) ∷ (list 186 197 ((list 187 196 ((word 188 192 (codes "have")) ∷ (word 193 195 (codes
    "?y")) ∷ [])) ∷ [])) ∷ (list 198 223 ((list 199 209 ((word 200 205 (codes "!drop")) ∷ (word 206 208 (codes
    "?y")) ∷ [])) ∷ (list 210 222 ((word 211 218 (codes "!pickup")) ∷ (word 219 221 (codes "?x")) ∷ [])) ∷ []))
    ∷ [])) ∷ [])) ∷ [])) ∷ [])

-- the text spells this forest
pub basic_domain_spelled : IsForest texts.basic_domain basic_domain_forest
unfolding spelling_of
basic_domain_spelled = tested texts.basic_domain basic_domain_forest refl

abbrev pub swap_problem_forest : Forest
swap_problem_forest =
    grown ((list 0 55 ((word 1 11 (codes "defproblem")) ∷ (word 12 14 (codes "p1")) ∷ (word 15 20 (codes
    "basic")) ∷ (list 21 34 ((list 22 33 ((word 23 27 (codes "have")) ∷ (word 28 32 (codes "kiwi")) ∷ [])) ∷
    [])) ∷ (list 35 54 ((list 36 53 ((word 37 41 (codes "swap")) ∷ (word 42 47 (codes "banjo")) ∷ (word 48 52
    (codes "kiwi")) ∷ [])) ∷ [])) ∷ [])) ∷ [])

-- the text spells this forest
pub swap_problem_spelled : IsForest texts.swap_problem swap_problem_forest
unfolding spelling_of
swap_problem_spelled = tested texts.swap_problem swap_problem_forest refl

abbrev pub nothing_problem_forest : Forest
nothing_problem_forest =
    grown ((list 0 26 ((word 1 11 (codes "defproblem")) ∷ (word 12 13 (codes "p")) ∷ (word 14 19 (codes
    "basic")) ∷ (list 20 22 ([])) ∷ (list 23 25 ([])) ∷ [])) ∷ [])

-- the text spells this forest
pub nothing_problem_spelled : IsForest texts.nothing_problem nothing_problem_forest
unfolding spelling_of
nothing_problem_spelled = tested texts.nothing_problem nothing_problem_forest refl

abbrev pub two_pairs_problem_forest : Forest
two_pairs_problem_forest =
    grown ((list 0 60 ((word 1 11 (codes "defproblem")) ∷ (word 12 13 (codes "p")) ∷ (word 14 19 (codes
    "basic")) ∷ (list 20 33 ((list 21 32 ((word 22 26 (codes "have")) ∷ (word 27 31 (codes "kiwi")) ∷ [])) ∷
    [])) ∷ (list 34 53 ((list 35 52 ((word 36 40 (codes "swap")) ∷ (word 41 46 (codes "banjo")) ∷ (word 47 51
    (codes "kiwi")) ∷ [])) ∷ [])) ∷ (list 54 56 ([])) ∷ (list 57 59 ([])) ∷ [])) ∷ [])

-- the text spells this forest
pub two_pairs_problem_spelled : IsForest texts.two_pairs_problem two_pairs_problem_forest
unfolding spelling_of
two_pairs_problem_spelled = tested texts.two_pairs_problem two_pairs_problem_forest refl

abbrev pub second_fails_problem_forest : Forest
second_fails_problem_forest =
    grown ((list 0 68 ((word 1 11 (codes "defproblem")) ∷ (word 12 13 (codes "p")) ∷ (word 14 19 (codes
    "basic")) ∷ (list 20 33 ((list 21 32 ((word 22 26 (codes "have")) ∷ (word 27 31 (codes "kiwi")) ∷ [])) ∷
    [])) ∷ (list 34 53 ((list 35 52 ((word 36 40 (codes "swap")) ∷ (word 41 46 (codes "banjo")) ∷ (word 47 51
    (codes "kiwi")) ∷ [])) ∷ [])) ∷ (list 54 56 ([])) ∷ (list 57 67 ((list 58 66 ((word 59 65 (codes "juggle"))
    ∷ [])) ∷ [])) ∷ [])) ∷ [])

-- the text spells this forest
pub second_fails_problem_spelled : IsForest texts.second_fails_problem second_fails_problem_forest
unfolding spelling_of
second_fails_problem_spelled = tested texts.second_fails_problem second_fails_problem_forest refl

abbrev pub focus_domain_forest : Forest
focus_domain_forest =
    grown ((list 0 147 ((word 1 10 (codes "defdomain")) ∷ (word 11 12 (codes "f")) ∷ (list 13 146 ((list 15 40
    ((word 16 25 (codes ":operator")) ∷ (list 26 30 ((word 27 29 (codes "!a")) ∷ [])) ∷ (list 31 33 ([])) ∷
    (list 34 36 ([])) ∷ (list 37 39 ([])) ∷ [])) ∷ (list 41 66 ((word 42 51 (codes ":operator")) ∷ (list 52 56
    ((word 53 55 (codes "!b")) ∷ [])) ∷ (list 57 59 ([])) ∷ (list 60 62 ([])) ∷ (list 63 65 ([])) ∷ [])) ∷ (list
    67 92 ((word 68 77 (codes ":operator")) ∷ (list 78 82 ((word 79 81 (codes "!c")) ∷ [])) ∷ (list 83 85 ([]))
    ∷ (list 86 88 ([])) ∷ (list 89 91 ([])) ∷ [])) ∷ (list 93 121 ((word 94 101 (codes ":method")) ∷ (list 102
    105 ((word 103 104 (codes "x")) ∷ [])) ∷ (list 106 108 ([])) ∷ (list 109 120 ((list 110 114 ((word 111 113
    (codes "!a")) ∷ [])) ∷ (list 115 119 ((word 116 118 (codes "!b")) ∷ [])) ∷ [])) ∷ [])) ∷ (list 122 145
    ((word 123 130 (codes ":method")) ∷ (list 131 134 ((word 132 133 (codes "y")) ∷ [])) ∷ (list 135 137 ([])) ∷
    (list 138 144 ((list 139 143 ((word 140 142 (codes "!c")) ∷ [])) ∷ [])) ∷ [])) ∷ [])) ∷ [])) ∷ [])

-- the text spells this forest
pub focus_domain_spelled : IsForest texts.focus_domain focus_domain_forest
unfolding spelling_of
focus_domain_spelled = tested texts.focus_domain focus_domain_forest refl

abbrev pub any_order_problem_forest : Forest
any_order_problem_forest =
    grown ((list 0 40 ((word 1 11 (codes "defproblem")) ∷ (word 12 13 (codes "p")) ∷ (word 14 15 (codes "f")) ∷
    (list 16 18 ([])) ∷ (list 19 39 ((word 20 30 (codes ":unordered")) ∷ (list 31 34 ((word 32 33 (codes "x")) ∷
    [])) ∷ (list 35 38 ((word 36 37 (codes "y")) ∷ [])) ∷ [])) ∷ [])) ∷ [])

-- the text spells this forest
pub any_order_problem_spelled : IsForest texts.any_order_problem any_order_problem_forest
unfolding spelling_of
any_order_problem_spelled = tested texts.any_order_problem any_order_problem_forest refl

abbrev pub immediate_problem_forest : Forest
immediate_problem_forest =
    grown ((list 0 51 ((word 1 11 (codes "defproblem")) ∷ (word 12 13 (codes "p")) ∷ (word 14 15 (codes "f")) ∷
    (list 16 18 ([])) ∷ (list 19 50 ((word 20 30 (codes ":unordered")) ∷ (list 31 34 ((word 32 33 (codes "x")) ∷
    [])) ∷ (list 35 49 ((word 36 46 (codes ":immediate")) ∷ (word 47 48 (codes "y")) ∷ [])) ∷ [])) ∷ [])) ∷ [])

-- the text spells this forest
pub immediate_problem_spelled : IsForest texts.immediate_problem immediate_problem_forest
unfolding spelling_of
immediate_problem_spelled = tested texts.immediate_problem immediate_problem_forest refl

abbrev pub order_domain_forest : Forest
order_domain_forest =
    grown ((list 0 127 ((word 1 10 (codes "defdomain")) ∷ (word 11 12 (codes "o")) ∷ (list 13 126 ((list 15 55
    ((word 16 25 (codes ":operator")) ∷ (list 26 33 ((word 27 32 (codes "!mark")) ∷ [])) ∷ (list 34 36 ([])) ∷
    (list 37 45 ((list 38 44 ((word 39 41 (codes "at")) ∷ (word 42 43 (codes "a")) ∷ [])) ∷ [])) ∷ (list 46 54
    ((list 47 53 ((word 48 50 (codes "at")) ∷ (word 51 52 (codes "a")) ∷ [])) ∷ [])) ∷ [])) ∷ (list 56 87 ((word
    57 66 (codes ":operator")) ∷ (list 67 77 ((word 68 73 (codes "!take")) ∷ (word 74 76 (codes "?y")) ∷ [])) ∷
    (list 78 80 ([])) ∷ (list 81 83 ([])) ∷ (list 84 86 ([])) ∷ [])) ∷ (list 88 125 ((word 89 96 (codes
    ":method")) ∷ (list 97 101 ((word 98 100 (codes "go")) ∷ [])) ∷ (list 102 111 ((list 103 110 ((word 104 106
    (codes "at")) ∷ (word 107 109 (codes "?y")) ∷ [])) ∷ [])) ∷ (list 112 124 ((list 113 123 ((word 114 119
    (codes "!take")) ∷ (word 120 122 (codes "?y")) ∷ [])) ∷ [])) ∷ [])) ∷ [])) ∷ [])) ∷ [])

-- the text spells this forest
pub order_domain_spelled : IsForest texts.order_domain order_domain_forest
unfolding spelling_of
order_domain_spelled = tested texts.order_domain order_domain_forest refl

abbrev pub two_places_problem_forest : Forest
two_places_problem_forest =
    grown ((list 0 47 ((word 1 11 (codes "defproblem")) ∷ (word 12 13 (codes "p")) ∷ (word 14 15 (codes "o")) ∷
    (list 16 31 ((list 17 23 ((word 18 20 (codes "at")) ∷ (word 21 22 (codes "a")) ∷ [])) ∷ (list 24 30 ((word
    25 27 (codes "at")) ∷ (word 28 29 (codes "b")) ∷ [])) ∷ [])) ∷ (list 32 46 ((list 33 40 ((word 34 39 (codes
    "!mark")) ∷ [])) ∷ (list 41 45 ((word 42 44 (codes "go")) ∷ [])) ∷ [])) ∷ [])) ∷ [])

-- the text spells this forest
pub two_places_problem_spelled : IsForest texts.two_places_problem two_places_problem_forest
unfolding spelling_of
two_places_problem_spelled = tested texts.two_places_problem two_places_problem_forest refl

abbrev pub order_kept_domain_forest : Forest
order_kept_domain_forest =
    grown ((list 0 121 ((word 1 10 (codes "defdomain")) ∷ (word 11 12 (codes "o")) ∷ (list 13 120 ((list 15 49
    ((word 16 25 (codes ":operator")) ∷ (list 26 33 ((word 27 32 (codes "!mark")) ∷ [])) ∷ (list 34 36 ([])) ∷
    (list 37 39 ([])) ∷ (list 40 48 ((list 41 47 ((word 42 44 (codes "at")) ∷ (word 45 46 (codes "a")) ∷ [])) ∷
    [])) ∷ [])) ∷ (list 50 81 ((word 51 60 (codes ":operator")) ∷ (list 61 71 ((word 62 67 (codes "!take")) ∷
    (word 68 70 (codes "?y")) ∷ [])) ∷ (list 72 74 ([])) ∷ (list 75 77 ([])) ∷ (list 78 80 ([])) ∷ [])) ∷ (list
    82 119 ((word 83 90 (codes ":method")) ∷ (list 91 95 ((word 92 94 (codes "go")) ∷ [])) ∷ (list 96 105 ((list
    97 104 ((word 98 100 (codes "at")) ∷ (word 101 103 (codes "?y")) ∷ [])) ∷ [])) ∷ (list 106 118 ((list 107
    117 ((word 108 113 (codes "!take")) ∷ (word 114 116 (codes "?y")) ∷ [])) ∷ [])) ∷ [])) ∷ [])) ∷ [])) ∷ [])

-- the text spells this forest
pub order_kept_domain_spelled : IsForest texts.order_kept_domain order_kept_domain_forest
unfolding spelling_of
order_kept_domain_spelled = tested texts.order_kept_domain order_kept_domain_forest refl

abbrev pub guard_domain_forest : Forest
guard_domain_forest =
    grown ((list 0 95 ((word 1 10 (codes "defdomain")) ∷ (word 11 12 (codes "g")) ∷ (list 13 94 ((list 15 61
    ((word 16 25 (codes ":operator")) ∷ (list 26 34 ((word 27 33 (codes "!guard")) ∷ [])) ∷ (list 35 37 ([])) ∷
    (list 38 40 ([])) ∷ (list 41 60 ((list 42 59 ((word 43 54 (codes ":protection")) ∷ (list 55 58 ((word 56 57
    (codes "p")) ∷ [])) ∷ [])) ∷ [])) ∷ [])) ∷ (list 62 93 ((word 63 72 (codes ":operator")) ∷ (list 73 80
    ((word 74 79 (codes "!kill")) ∷ [])) ∷ (list 81 83 ([])) ∷ (list 84 89 ((list 85 88 ((word 86 87 (codes
    "p")) ∷ [])) ∷ [])) ∷ (list 90 92 ([])) ∷ [])) ∷ [])) ∷ [])) ∷ [])

-- the text spells this forest
pub guard_domain_spelled : IsForest texts.guard_domain guard_domain_forest
unfolding spelling_of
guard_domain_spelled = tested texts.guard_domain guard_domain_forest refl

abbrev pub guarded_problem_forest : Forest
guarded_problem_forest =
    grown ((list 0 52 ((word 1 11 (codes "defproblem")) ∷ (word 12 13 (codes "p")) ∷ (word 14 15 (codes "g")) ∷
    (list 16 21 ((list 17 20 ((word 18 19 (codes "p")) ∷ [])) ∷ [])) ∷ (list 22 51 ((word 23 33 (codes
    ":unordered")) ∷ (list 34 42 ((word 35 41 (codes "!guard")) ∷ [])) ∷ (list 43 50 ((word 44 49 (codes
    "!kill")) ∷ [])) ∷ [])) ∷ [])) ∷ [])

-- the text spells this forest
pub guarded_problem_spelled : IsForest texts.guarded_problem guarded_problem_forest
unfolding spelling_of
guarded_problem_spelled = tested texts.guarded_problem guarded_problem_forest refl

abbrev pub cancel_domain_forest : Forest
cancel_domain_forest =
    grown ((list 0 141 ((word 1 10 (codes "defdomain")) ∷ (word 11 12 (codes "g")) ∷ (list 13 140 ((list 15 61
    ((word 16 25 (codes ":operator")) ∷ (list 26 34 ((word 27 33 (codes "!guard")) ∷ [])) ∷ (list 35 37 ([])) ∷
    (list 38 40 ([])) ∷ (list 41 60 ((list 42 59 ((word 43 54 (codes ":protection")) ∷ (list 55 58 ((word 56 57
    (codes "p")) ∷ [])) ∷ [])) ∷ [])) ∷ [])) ∷ (list 62 107 ((word 63 72 (codes ":operator")) ∷ (list 73 80
    ((word 74 79 (codes "!free")) ∷ [])) ∷ (list 81 83 ([])) ∷ (list 84 103 ((list 85 102 ((word 86 97 (codes
    ":protection")) ∷ (list 98 101 ((word 99 100 (codes "p")) ∷ [])) ∷ [])) ∷ [])) ∷ (list 104 106 ([])) ∷ []))
    ∷ (list 108 139 ((word 109 118 (codes ":operator")) ∷ (list 119 126 ((word 120 125 (codes "!kill")) ∷ [])) ∷
    (list 127 129 ([])) ∷ (list 130 135 ((list 131 134 ((word 132 133 (codes "p")) ∷ [])) ∷ [])) ∷ (list 136 138
    ([])) ∷ [])) ∷ [])) ∷ [])) ∷ [])

-- the text spells this forest
pub cancel_domain_spelled : IsForest texts.cancel_domain cancel_domain_forest
unfolding spelling_of
cancel_domain_spelled = tested texts.cancel_domain cancel_domain_forest refl

abbrev pub cancelled_once_problem_forest : Forest
cancelled_once_problem_forest =
    grown ((list 0 58 ((word 1 11 (codes "defproblem")) ∷ (word 12 13 (codes "p")) ∷ (word 14 15 (codes "g")) ∷
    (list 16 21 ((list 17 20 ((word 18 19 (codes "p")) ∷ [])) ∷ [])) ∷ (list 22 57 ((list 23 31 ((word 24 30
    (codes "!guard")) ∷ [])) ∷ (list 32 40 ((word 33 39 (codes "!guard")) ∷ [])) ∷ (list 41 48 ((word 42 47
    (codes "!free")) ∷ [])) ∷ (list 49 56 ((word 50 55 (codes "!kill")) ∷ [])) ∷ [])) ∷ [])) ∷ [])

-- the text spells this forest
pub cancelled_once_problem_spelled : IsForest texts.cancelled_once_problem cancelled_once_problem_forest
unfolding spelling_of
cancelled_once_problem_spelled = tested texts.cancelled_once_problem cancelled_once_problem_forest refl

abbrev pub cancelled_twice_problem_forest : Forest
cancelled_twice_problem_forest =
    grown ((list 0 66 ((word 1 11 (codes "defproblem")) ∷ (word 12 13 (codes "p")) ∷ (word 14 15 (codes "g")) ∷
    (list 16 21 ((list 17 20 ((word 18 19 (codes "p")) ∷ [])) ∷ [])) ∷ (list 22 65 ((list 23 31 ((word 24 30
    (codes "!guard")) ∷ [])) ∷ (list 32 40 ((word 33 39 (codes "!guard")) ∷ [])) ∷ (list 41 48 ((word 42 47
    (codes "!free")) ∷ [])) ∷ (list 49 56 ((word 50 55 (codes "!free")) ∷ [])) ∷ (list 57 64 ((word 58 63 (codes
    "!kill")) ∷ [])) ∷ [])) ∷ [])) ∷ [])

-- the text spells this forest
pub cancelled_twice_problem_spelled : IsForest texts.cancelled_twice_problem cancelled_twice_problem_forest
unfolding spelling_of
cancelled_twice_problem_spelled = tested texts.cancelled_twice_problem cancelled_twice_problem_forest refl

abbrev pub either_domain_forest : Forest
either_domain_forest =
    grown ((list 0 95 ((word 1 10 (codes "defdomain")) ∷ (word 11 12 (codes "d")) ∷ (list 13 94 ((list 14 43
    ((word 15 24 (codes ":operator")) ∷ (list 25 33 ((word 26 29 (codes "!do")) ∷ (word 30 32 (codes "?x")) ∷
    [])) ∷ (list 34 36 ([])) ∷ (list 37 39 ([])) ∷ (list 40 42 ([])) ∷ [])) ∷ (list 44 93 ((word 45 52 (codes
    ":method")) ∷ (list 53 56 ((word 54 55 (codes "m")) ∷ [])) ∷ (list 57 81 ((list 58 80 ((word 59 61 (codes
    "or")) ∷ (list 62 70 ((word 63 64 (codes "w")) ∷ (word 65 67 (codes "?x")) ∷ (number 68 69 (pos 1000)) ∷ [])) ∷
    (list 71 79 ((word 72 73 (codes "w")) ∷ (word 74 76 (codes "?x")) ∷ (number 77 78 (pos 1000)) ∷ [])) ∷ [])) ∷
    [])) ∷ (list 82 92 ((list 83 91 ((word 84 87 (codes "!do")) ∷ (word 88 90 (codes "?x")) ∷ [])) ∷ [])) ∷ []))
    ∷ [])) ∷ [])) ∷ [])

-- the text spells this forest
pub either_domain_spelled : IsForest texts.either_domain either_domain_forest
unfolding spelling_of
either_domain_spelled = tested texts.either_domain either_domain_forest refl

abbrev pub weights_twice_problem_forest : Forest
weights_twice_problem_forest =
    grown ((list 0 80 ((word 1 11 (codes "defproblem")) ∷ (word 12 13 (codes "p")) ∷ (word 14 15 (codes "d")) ∷
    (list 16 41 ((list 17 24 ((word 18 19 (codes "w")) ∷ (word 20 21 (codes "a")) ∷ (number 22 23 (pos 3000)) ∷
    [])) ∷ (list 25 32 ((word 26 27 (codes "w")) ∷ (word 28 29 (codes "b")) ∷ (number 30 31 (pos 1000)) ∷ [])) ∷
    (list 33 40 ((word 34 35 (codes "w")) ∷ (word 36 37 (codes "c")) ∷ (number 38 39 (pos 3000)) ∷ [])) ∷ [])) ∷
    (list 42 47 ((list 43 46 ((word 44 45 (codes "m")) ∷ [])) ∷ [])) ∷ (list 48 73 ((list 49 56 ((word 50 51
    (codes "w")) ∷ (word 52 53 (codes "a")) ∷ (number 54 55 (pos 3000)) ∷ [])) ∷ (list 57 64 ((word 58 59 (codes
    "w")) ∷ (word 60 61 (codes "b")) ∷ (number 62 63 (pos 1000)) ∷ [])) ∷ (list 65 72 ((word 66 67 (codes "w")) ∷
    (word 68 69 (codes "c")) ∷ (number 70 71 (pos 3000)) ∷ [])) ∷ [])) ∷ (list 74 79 ((list 75 78 ((word 76 77
    (codes "m")) ∷ [])) ∷ [])) ∷ [])) ∷ [])

-- the text spells this forest
pub weights_twice_problem_spelled : IsForest texts.weights_twice_problem weights_twice_problem_forest
unfolding spelling_of
weights_twice_problem_spelled = tested texts.weights_twice_problem weights_twice_problem_forest refl

abbrev pub weights_problem_forest : Forest
weights_problem_forest =
    grown ((list 0 48 ((word 1 11 (codes "defproblem")) ∷ (word 12 13 (codes "p")) ∷ (word 14 15 (codes "d")) ∷
    (list 16 41 ((list 17 24 ((word 18 19 (codes "w")) ∷ (word 20 21 (codes "a")) ∷ (number 22 23 (pos 3000)) ∷
    [])) ∷ (list 25 32 ((word 26 27 (codes "w")) ∷ (word 28 29 (codes "b")) ∷ (number 30 31 (pos 1000)) ∷ [])) ∷
    (list 33 40 ((word 34 35 (codes "w")) ∷ (word 36 37 (codes "c")) ∷ (number 38 39 (pos 3000)) ∷ [])) ∷ [])) ∷
    (list 42 47 ((list 43 46 ((word 44 45 (codes "m")) ∷ [])) ∷ [])) ∷ [])) ∷ [])

-- the text spells this forest
pub weights_problem_spelled : IsForest texts.weights_problem weights_problem_forest
unfolding spelling_of
weights_problem_spelled = tested texts.weights_problem weights_problem_forest refl

abbrev pub sorted_domain_forest : Forest
sorted_domain_forest =
    grown ((list 0 98 ((word 1 10 (codes "defdomain")) ∷ (word 11 12 (codes "d")) ∷ (list 13 97 ((list 14 43
    ((word 15 24 (codes ":operator")) ∷ (list 25 33 ((word 26 29 (codes "!do")) ∷ (word 30 32 (codes "?x")) ∷
    [])) ∷ (list 34 36 ([])) ∷ (list 37 39 ([])) ∷ (list 40 42 ([])) ∷ [])) ∷ (list 44 96 ((word 45 52 (codes
    ":method")) ∷ (list 53 56 ((word 54 55 (codes "m")) ∷ [])) ∷ (list 57 84 ((word 58 66 (codes ":sort-by")) ∷
    (word 67 69 (codes "?n")) ∷ (word 70 71 (codes ">")) ∷ (list 72 83 ((list 73 82 ((word 74 75 (codes "w")) ∷
    (word 76 78 (codes "?x")) ∷ (word 79 81 (codes "?n")) ∷ [])) ∷ [])) ∷ [])) ∷ (list 85 95 ((list 86 94 ((word
    87 90 (codes "!do")) ∷ (word 91 93 (codes "?x")) ∷ [])) ∷ [])) ∷ [])) ∷ [])) ∷ [])) ∷ [])

-- the text spells this forest
pub sorted_domain_spelled : IsForest texts.sorted_domain sorted_domain_forest
unfolding spelling_of
sorted_domain_spelled = tested texts.sorted_domain sorted_domain_forest refl

abbrev pub sorted_up_domain_forest : Forest
sorted_up_domain_forest =
    grown ((list 0 98 ((word 1 10 (codes "defdomain")) ∷ (word 11 12 (codes "d")) ∷ (list 13 97 ((list 14 43
    ((word 15 24 (codes ":operator")) ∷ (list 25 33 ((word 26 29 (codes "!do")) ∷ (word 30 32 (codes "?x")) ∷
    [])) ∷ (list 34 36 ([])) ∷ (list 37 39 ([])) ∷ (list 40 42 ([])) ∷ [])) ∷ (list 44 96 ((word 45 52 (codes
    ":method")) ∷ (list 53 56 ((word 54 55 (codes "m")) ∷ [])) ∷ (list 57 84 ((word 58 66 (codes ":sort-by")) ∷
    (word 67 69 (codes "?n")) ∷ (word 70 71 (codes "<")) ∷ (list 72 83 ((list 73 82 ((word 74 75 (codes "w")) ∷
    (word 76 78 (codes "?x")) ∷ (word 79 81 (codes "?n")) ∷ [])) ∷ [])) ∷ [])) ∷ (list 85 95 ((list 86 94 ((word
    87 90 (codes "!do")) ∷ (word 91 93 (codes "?x")) ∷ [])) ∷ [])) ∷ [])) ∷ [])) ∷ [])) ∷ [])

-- the text spells this forest
pub sorted_up_domain_spelled : IsForest texts.sorted_up_domain sorted_up_domain_forest
unfolding spelling_of
sorted_up_domain_spelled = tested texts.sorted_up_domain sorted_up_domain_forest refl

abbrev pub first_domain_forest : Forest
first_domain_forest =
    grown ((list 0 91 ((word 1 10 (codes "defdomain")) ∷ (word 11 12 (codes "d")) ∷ (list 13 90 ((list 14 43
    ((word 15 24 (codes ":operator")) ∷ (list 25 33 ((word 26 29 (codes "!do")) ∷ (word 30 32 (codes "?x")) ∷
    [])) ∷ (list 34 36 ([])) ∷ (list 37 39 ([])) ∷ (list 40 42 ([])) ∷ [])) ∷ (list 44 89 ((word 45 52 (codes
    ":method")) ∷ (list 53 56 ((word 54 55 (codes "m")) ∷ [])) ∷ (list 57 77 ((word 58 64 (codes ":first")) ∷
    (list 65 76 ((list 66 75 ((word 67 68 (codes "w")) ∷ (word 69 71 (codes "?x")) ∷ (word 72 74 (codes "?n")) ∷
    [])) ∷ [])) ∷ [])) ∷ (list 78 88 ((list 79 87 ((word 80 83 (codes "!do")) ∷ (word 84 86 (codes "?x")) ∷ []))
    ∷ [])) ∷ [])) ∷ [])) ∷ [])) ∷ [])

-- the text spells this forest
pub first_domain_spelled : IsForest texts.first_domain first_domain_forest
unfolding spelling_of
first_domain_spelled = tested texts.first_domain first_domain_forest refl

abbrev pub sorted_unbound_domain_forest : Forest
sorted_unbound_domain_forest =
    grown ((list 0 96 ((word 1 10 (codes "defdomain")) ∷ (word 11 12 (codes "d")) ∷ (list 13 95 ((list 14 43
    ((word 15 24 (codes ":operator")) ∷ (list 25 33 ((word 26 29 (codes "!do")) ∷ (word 30 32 (codes "?x")) ∷
    [])) ∷ (list 34 36 ([])) ∷ (list 37 39 ([])) ∷ (list 40 42 ([])) ∷ [])) ∷ (list 44 94 ((word 45 52 (codes
    ":method")) ∷ (list 53 56 ((word 54 55 (codes "m")) ∷ [])) ∷ (list 57 82 ((word 58 66 (codes ":sort-by")) ∷
    (word 67 69 (codes "?k")) ∷ (list 70 81 ((list 71 80 ((word 72 73 (codes "w")) ∷ (word 74 76 (codes "?x")) ∷
    (word 77 79 (codes "?n")) ∷ [])) ∷ [])) ∷ [])) ∷ (list 83 93 ((list 84 92 ((word 85 88 (codes "!do")) ∷
    (word 89 91 (codes "?x")) ∷ [])) ∷ [])) ∷ [])) ∷ [])) ∷ [])) ∷ [])

-- the text spells this forest
pub sorted_unbound_domain_spelled : IsForest texts.sorted_unbound_domain sorted_unbound_domain_forest
unfolding spelling_of
sorted_unbound_domain_spelled = tested texts.sorted_unbound_domain sorted_unbound_domain_forest refl

abbrev pub sorted_names_domain_forest : Forest
sorted_names_domain_forest =
    grown ((list 0 96 ((word 1 10 (codes "defdomain")) ∷ (word 11 12 (codes "d")) ∷ (list 13 95 ((list 14 43
    ((word 15 24 (codes ":operator")) ∷ (list 25 33 ((word 26 29 (codes "!do")) ∷ (word 30 32 (codes "?x")) ∷
    [])) ∷ (list 34 36 ([])) ∷ (list 37 39 ([])) ∷ (list 40 42 ([])) ∷ [])) ∷ (list 44 94 ((word 45 52 (codes
    ":method")) ∷ (list 53 56 ((word 54 55 (codes "m")) ∷ [])) ∷ (list 57 82 ((word 58 66 (codes ":sort-by")) ∷
    (word 67 69 (codes "?x")) ∷ (list 70 81 ((list 71 80 ((word 72 73 (codes "w")) ∷ (word 74 76 (codes "?x")) ∷
    (word 77 79 (codes "?n")) ∷ [])) ∷ [])) ∷ [])) ∷ (list 83 93 ((list 84 92 ((word 85 88 (codes "!do")) ∷
    (word 89 91 (codes "?x")) ∷ [])) ∷ [])) ∷ [])) ∷ [])) ∷ [])) ∷ [])

-- the text spells this forest
pub sorted_names_domain_spelled : IsForest texts.sorted_names_domain sorted_names_domain_forest
unfolding spelling_of
sorted_names_domain_spelled = tested texts.sorted_names_domain sorted_names_domain_forest refl

abbrev pub sorted_cut_domain_forest : Forest
sorted_cut_domain_forest =
    grown ((list 0 128 ((word 1 10 (codes "defdomain")) ∷ (word 11 12 (codes "d")) ∷ (list 13 127 ((list 14 43
    ((word 15 24 (codes ":operator")) ∷ (list 25 33 ((word 26 29 (codes "!do")) ∷ (word 30 32 (codes "?x")) ∷
    [])) ∷ (list 34 36 ([])) ∷ (list 37 39 ([])) ∷ (list 40 42 ([])) ∷ [])) ∷ (list 44 64 ((word 45 47 (codes
    ":-")) ∷ (list 48 54 ((word 49 50 (codes "q")) ∷ (word 51 53 (codes "?x")) ∷ [])) ∷ (list 55 63 ((list 56 62
    ((word 57 58 (codes "q")) ∷ (word 59 61 (codes "?x")) ∷ [])) ∷ [])) ∷ [])) ∷ (list 65 126 ((word 66 73
    (codes ":method")) ∷ (list 74 77 ((word 75 76 (codes "m")) ∷ [])) ∷ (list 78 114 ((word 79 87 (codes
    ":sort-by")) ∷ (word 88 90 (codes "?n")) ∷ (list 91 113 ((list 92 112 ((word 93 95 (codes "or")) ∷ (list 96
    105 ((word 97 98 (codes "w")) ∷ (word 99 101 (codes "?x")) ∷ (word 102 104 (codes "?n")) ∷ [])) ∷ (list 106
    111 ((word 107 108 (codes "q")) ∷ (word 109 110 (codes "a")) ∷ [])) ∷ [])) ∷ [])) ∷ [])) ∷ (list 115 125
    ((list 116 124 ((word 117 120 (codes "!do")) ∷ (word 121 123 (codes "?x")) ∷ [])) ∷ [])) ∷ [])) ∷ [])) ∷
    [])) ∷ [])

-- the text spells this forest
pub sorted_cut_domain_spelled : IsForest texts.sorted_cut_domain sorted_cut_domain_forest
unfolding spelling_of
sorted_cut_domain_spelled = tested texts.sorted_cut_domain sorted_cut_domain_forest refl

abbrev pub quotient_domain_forest : Forest
quotient_domain_forest =
    grown ((list 0 119 ((word 1 10 (codes "defdomain")) ∷ (word 11 12 (codes "d")) ∷ (list 13 118 ((list 14 43
    ((word 15 24 (codes ":operator")) ∷ (list 25 33 ((word 26 29 (codes "!do")) ∷ (word 30 32 (codes "?x")) ∷
    [])) ∷ (list 34 36 ([])) ∷ (list 37 39 ([])) ∷ (list 40 42 ([])) ∷ [])) ∷ (list 44 117 ((word 45 52 (codes
    ":method")) ∷ (list 53 56 ((word 54 55 (codes "m")) ∷ [])) ∷ (list 57 105 ((list 58 67 ((word 59 60 (codes
    "w")) ∷ (word 61 63 (codes "?x")) ∷ (word 64 66 (codes "?n")) ∷ [])) ∷ (list 68 104 ((word 69 75 (codes
    "assign")) ∷ (word 76 78 (codes "?q")) ∷ (list 79 103 ((word 80 84 (codes "call")) ∷ (word 85 86 (codes
    "/")) ∷ (number 87 88 (pos 6000)) ∷ (list 89 102 ((word 90 94 (codes "call")) ∷ (word 95 96 (codes "-")) ∷
    (word 97 99 (codes "?n")) ∷ (number 100 101 (pos 1000)) ∷ [])) ∷ [])) ∷ [])) ∷ [])) ∷ (list 106 116 ((list 107
    115 ((word 108 111 (codes "!do")) ∷ (word 112 114 (codes "?x")) ∷ [])) ∷ [])) ∷ [])) ∷ [])) ∷ [])) ∷ [])

-- the text spells this forest
pub quotient_domain_spelled : IsForest texts.quotient_domain quotient_domain_forest
unfolding spelling_of
quotient_domain_spelled = tested texts.quotient_domain quotient_domain_forest refl

abbrev pub named_cost_domain_forest : Forest
named_cost_domain_forest =
    grown ((list 0 47 ((word 1 10 (codes "defdomain")) ∷ (word 11 12 (codes "d")) ∷ (list 13 46 ((list 14 45
    ((word 15 24 (codes ":operator")) ∷ (list 25 32 ((word 26 28 (codes "!x")) ∷ (word 29 31 (codes "?a")) ∷
    [])) ∷ (list 33 35 ([])) ∷ (list 36 38 ([])) ∷ (list 39 41 ([])) ∷ (word 42 44 (codes "?a")) ∷ [])) ∷ [])) ∷
    [])) ∷ [])

-- the text spells this forest
pub named_cost_domain_spelled : IsForest texts.named_cost_domain named_cost_domain_forest
unfolding spelling_of
named_cost_domain_spelled = tested texts.named_cost_domain named_cost_domain_forest refl

abbrev pub x_problem_forest : Forest
x_problem_forest =
    grown ((list 0 28 ((word 1 11 (codes "defproblem")) ∷ (word 12 13 (codes "p")) ∷ (word 14 15 (codes "d")) ∷
    (list 16 18 ([])) ∷ (list 19 27 ((list 20 26 ((word 21 23 (codes "!x")) ∷ (word 24 25 (codes "b")) ∷ [])) ∷
    [])) ∷ [])) ∷ [])

-- the text spells this forest
pub x_problem_spelled : IsForest texts.x_problem x_problem_forest
unfolding spelling_of
x_problem_spelled = tested texts.x_problem x_problem_forest refl

abbrev pub open_head_domain_forest : Forest
open_head_domain_forest =
    grown ((list 0 109 ((word 1 10 (codes "defdomain")) ∷ (word 11 12 (codes "d")) ∷ (list 13 108 ((list 14 43
    ((word 15 24 (codes ":operator")) ∷ (list 25 33 ((word 26 29 (codes "!do")) ∷ (word 30 32 (codes "?x")) ∷
    [])) ∷ (list 34 36 ([])) ∷ (list 37 39 ([])) ∷ (list 40 42 ([])) ∷ [])) ∷ (list 44 70 ((word 45 47 (codes
    ":-")) ∷ (list 48 57 ((word 49 50 (codes "r")) ∷ (word 51 53 (codes "?x")) ∷ (word 54 56 (codes "?y")) ∷
    [])) ∷ (list 58 69 ((list 59 68 ((word 60 61 (codes "w")) ∷ (word 62 64 (codes "?x")) ∷ (word 65 67 (codes
    "?n")) ∷ [])) ∷ [])) ∷ [])) ∷ (list 71 107 ((word 72 79 (codes ":method")) ∷ (list 80 83 ((word 81 82 (codes
    "m")) ∷ [])) ∷ (list 84 95 ((list 85 94 ((word 86 87 (codes "r")) ∷ (word 88 90 (codes "?u")) ∷ (word 91 93
    (codes "?v")) ∷ [])) ∷ [])) ∷ (list 96 106 ((list 97 105 ((word 98 101 (codes "!do")) ∷ (word 102 104 (codes
    "?u")) ∷ [])) ∷ [])) ∷ [])) ∷ [])) ∷ [])) ∷ [])

-- the text spells this forest
pub open_head_domain_spelled : IsForest texts.open_head_domain open_head_domain_forest
unfolding spelling_of
open_head_domain_spelled = tested texts.open_head_domain open_head_domain_forest refl

abbrev pub big_domain_forest : Forest
big_domain_forest =
    grown ((list 0 147 ((word 1 10 (codes "defdomain")) ∷ (word 11 12 (codes "d")) ∷ (list 13 146 ((list 14 43
    ((word 15 24 (codes ":operator")) ∷ (list 25 33 ((word 26 29 (codes "!do")) ∷ (word 30 32 (codes "?x")) ∷
    [])) ∷ (list 34 36 ([])) ∷ (list 37 39 ([])) ∷ (list 40 42 ([])) ∷ [])) ∷ (list 44 109 ((word 45 47 (codes
    ":-")) ∷ (list 48 56 ((word 49 52 (codes "big")) ∷ (word 53 55 (codes "?x")) ∷ [])) ∷ (list 57 82 ((list 58
    67 ((word 59 60 (codes "w")) ∷ (word 61 63 (codes "?x")) ∷ (word 64 66 (codes "?n")) ∷ [])) ∷ (list 68 81
    ((word 69 73 (codes "call")) ∷ (word 74 75 (codes ">")) ∷ (word 76 78 (codes "?n")) ∷ (number 79 80 (pos 5000))
    ∷ [])) ∷ [])) ∷ (list 83 108 ((list 84 93 ((word 85 86 (codes "w")) ∷ (word 87 89 (codes "?x")) ∷ (word 90
    92 (codes "?n")) ∷ [])) ∷ (list 94 107 ((word 95 99 (codes "call")) ∷ (word 100 101 (codes ">")) ∷ (word 102
    104 (codes "?n")) ∷ (number 105 106 (pos 2000)) ∷ [])) ∷ [])) ∷ [])) ∷ (list 110 145 ((word 111 118 (codes
    ":method")) ∷ (list 119 122 ((word 120 121 (codes "m")) ∷ [])) ∷ (list 123 133 ((list 124 132 ((word 125 128
    (codes "big")) ∷ (word 129 131 (codes "?x")) ∷ [])) ∷ [])) ∷ (list 134 144 ((list 135 143 ((word 136 139
    (codes "!do")) ∷ (word 140 142 (codes "?x")) ∷ [])) ∷ [])) ∷ [])) ∷ [])) ∷ [])) ∷ [])

-- the text spells this forest
pub big_domain_spelled : IsForest texts.big_domain big_domain_forest
unfolding spelling_of
big_domain_spelled = tested texts.big_domain big_domain_forest refl

abbrev pub hidden_domain_forest : Forest
hidden_domain_forest =
    grown ((list 0 133 ((word 1 10 (codes "defdomain")) ∷ (word 11 12 (codes "d")) ∷ (list 13 132 ((list 14 43
    ((word 15 24 (codes ":operator")) ∷ (list 25 33 ((word 26 29 (codes "!do")) ∷ (word 30 32 (codes "?x")) ∷
    [])) ∷ (list 34 36 ([])) ∷ (list 37 39 ([])) ∷ (list 40 42 ([])) ∷ [])) ∷ (list 44 95 ((word 45 47 (codes
    ":-")) ∷ (list 48 56 ((word 49 52 (codes "big")) ∷ (word 53 55 (codes "?x")) ∷ [])) ∷ (list 57 82 ((list 58
    67 ((word 59 60 (codes "w")) ∷ (word 61 63 (codes "?x")) ∷ (word 64 66 (codes "?n")) ∷ [])) ∷ (list 68 81
    ((word 69 73 (codes "call")) ∷ (word 74 75 (codes ">")) ∷ (word 76 78 (codes "?n")) ∷ (number 79 80 (pos 2000))
    ∷ [])) ∷ [])) ∷ (list 83 94 ((list 84 93 ((word 85 86 (codes "w")) ∷ (word 87 89 (codes "?x")) ∷ (word 90 92
    (codes "?n")) ∷ [])) ∷ [])) ∷ [])) ∷ (list 96 131 ((word 97 104 (codes ":method")) ∷ (list 105 108 ((word
    106 107 (codes "m")) ∷ [])) ∷ (list 109 119 ((list 110 118 ((word 111 114 (codes "big")) ∷ (word 115 117
    (codes "?x")) ∷ [])) ∷ [])) ∷ (list 120 130 ((list 121 129 ((word 122 125 (codes "!do")) ∷ (word 126 128
    (codes "?x")) ∷ [])) ∷ [])) ∷ [])) ∷ [])) ∷ [])) ∷ [])

-- the text spells this forest
pub hidden_domain_spelled : IsForest texts.hidden_domain hidden_domain_forest
unfolding spelling_of
hidden_domain_spelled = tested texts.hidden_domain hidden_domain_forest refl

abbrev pub endless_domain_forest : Forest
endless_domain_forest =
    grown ((list 0 98 ((word 1 10 (codes "defdomain")) ∷ (word 11 12 (codes "d")) ∷ (list 13 97 ((list 14 43
    ((word 15 24 (codes ":operator")) ∷ (list 25 33 ((word 26 29 (codes "!do")) ∷ (word 30 32 (codes "?x")) ∷
    [])) ∷ (list 34 36 ([])) ∷ (list 37 39 ([])) ∷ (list 40 42 ([])) ∷ [])) ∷ (list 44 64 ((word 45 47 (codes
    ":-")) ∷ (list 48 54 ((word 49 50 (codes "q")) ∷ (word 51 53 (codes "?x")) ∷ [])) ∷ (list 55 63 ((list 56 62
    ((word 57 58 (codes "q")) ∷ (word 59 61 (codes "?x")) ∷ [])) ∷ [])) ∷ [])) ∷ (list 65 96 ((word 66 73 (codes
    ":method")) ∷ (list 74 77 ((word 75 76 (codes "m")) ∷ [])) ∷ (list 78 85 ((list 79 84 ((word 80 81 (codes
    "q")) ∷ (word 82 83 (codes "a")) ∷ [])) ∷ [])) ∷ (list 86 95 ((list 87 94 ((word 88 91 (codes "!do")) ∷
    (word 92 93 (codes "a")) ∷ [])) ∷ [])) ∷ [])) ∷ [])) ∷ [])) ∷ [])

-- the text spells this forest
pub endless_domain_spelled : IsForest texts.endless_domain endless_domain_forest
unfolding spelling_of
endless_domain_spelled = tested texts.endless_domain endless_domain_forest refl

abbrev pub not_endless_domain_forest : Forest
not_endless_domain_forest =
    grown ((list 0 104 ((word 1 10 (codes "defdomain")) ∷ (word 11 12 (codes "d")) ∷ (list 13 103 ((list 14 43
    ((word 15 24 (codes ":operator")) ∷ (list 25 33 ((word 26 29 (codes "!do")) ∷ (word 30 32 (codes "?x")) ∷
    [])) ∷ (list 34 36 ([])) ∷ (list 37 39 ([])) ∷ (list 40 42 ([])) ∷ [])) ∷ (list 44 64 ((word 45 47 (codes
    ":-")) ∷ (list 48 54 ((word 49 50 (codes "q")) ∷ (word 51 53 (codes "?x")) ∷ [])) ∷ (list 55 63 ((list 56 62
    ((word 57 58 (codes "q")) ∷ (word 59 61 (codes "?x")) ∷ [])) ∷ [])) ∷ [])) ∷ (list 65 102 ((word 66 73
    (codes ":method")) ∷ (list 74 77 ((word 75 76 (codes "m")) ∷ [])) ∷ (list 78 91 ((list 79 90 ((word 80 83
    (codes "not")) ∷ (list 84 89 ((word 85 86 (codes "q")) ∷ (word 87 88 (codes "a")) ∷ [])) ∷ [])) ∷ [])) ∷
    (list 92 101 ((list 93 100 ((word 94 97 (codes "!do")) ∷ (word 98 99 (codes "a")) ∷ [])) ∷ [])) ∷ [])) ∷
    [])) ∷ [])) ∷ [])

-- the text spells this forest
pub not_endless_domain_spelled : IsForest texts.not_endless_domain not_endless_domain_forest
unfolding spelling_of
not_endless_domain_spelled = tested texts.not_endless_domain not_endless_domain_forest refl

abbrev pub cut_branch_domain_forest : Forest
cut_branch_domain_forest =
    grown ((list 0 111 ((word 1 10 (codes "defdomain")) ∷ (word 11 12 (codes "d")) ∷ (list 13 110 ((list 14 43
    ((word 15 24 (codes ":operator")) ∷ (list 25 33 ((word 26 29 (codes "!do")) ∷ (word 30 32 (codes "?x")) ∷
    [])) ∷ (list 34 36 ([])) ∷ (list 37 39 ([])) ∷ (list 40 42 ([])) ∷ [])) ∷ (list 44 64 ((word 45 47 (codes
    ":-")) ∷ (list 48 54 ((word 49 50 (codes "q")) ∷ (word 51 53 (codes "?x")) ∷ [])) ∷ (list 55 63 ((list 56 62
    ((word 57 58 (codes "q")) ∷ (word 59 61 (codes "?x")) ∷ [])) ∷ [])) ∷ [])) ∷ (list 65 109 ((word 66 73
    (codes ":method")) ∷ (list 74 77 ((word 75 76 (codes "m")) ∷ [])) ∷ (list 78 85 ((list 79 84 ((word 80 81
    (codes "q")) ∷ (word 82 83 (codes "a")) ∷ [])) ∷ [])) ∷ (list 86 95 ((list 87 94 ((word 88 91 (codes "!do"))
    ∷ (word 92 93 (codes "a")) ∷ [])) ∷ [])) ∷ (list 96 98 ([])) ∷ (list 99 108 ((list 100 107 ((word 101 104
    (codes "!do")) ∷ (word 105 106 (codes "b")) ∷ [])) ∷ [])) ∷ [])) ∷ [])) ∷ [])) ∷ [])

-- the text spells this forest
pub cut_branch_domain_spelled : IsForest texts.cut_branch_domain cut_branch_domain_forest
unfolding spelling_of
cut_branch_domain_spelled = tested texts.cut_branch_domain cut_branch_domain_forest refl

abbrev pub not_fault_domain_forest : Forest
not_fault_domain_forest =
    grown ((list 0 103 ((word 1 10 (codes "defdomain")) ∷ (word 11 12 (codes "d")) ∷ (list 13 102 ((list 14 43
    ((word 15 24 (codes ":operator")) ∷ (list 25 33 ((word 26 29 (codes "!do")) ∷ (word 30 32 (codes "?x")) ∷
    [])) ∷ (list 34 36 ([])) ∷ (list 37 39 ([])) ∷ (list 40 42 ([])) ∷ [])) ∷ (list 44 101 ((word 45 52 (codes
    ":method")) ∷ (list 53 56 ((word 54 55 (codes "m")) ∷ [])) ∷ (list 57 90 ((list 58 89 ((word 59 62 (codes
    "not")) ∷ (list 63 88 ((list 64 73 ((word 65 66 (codes "w")) ∷ (word 67 69 (codes "?x")) ∷ (word 70 72
    (codes "?n")) ∷ [])) ∷ (list 74 87 ((word 75 79 (codes "call")) ∷ (word 80 81 (codes "<")) ∷ (word 82 84
    (codes "?x")) ∷ (number 85 86 (pos 1000)) ∷ [])) ∷ [])) ∷ [])) ∷ [])) ∷ (list 91 100 ((list 92 99 ((word 93 96
    (codes "!do")) ∷ (word 97 98 (codes "b")) ∷ [])) ∷ [])) ∷ [])) ∷ [])) ∷ [])) ∷ [])

-- the text spells this forest
pub not_fault_domain_spelled : IsForest texts.not_fault_domain not_fault_domain_forest
unfolding spelling_of
not_fault_domain_spelled = tested texts.not_fault_domain not_fault_domain_forest refl

abbrev pub all_above_0_domain_forest : Forest
all_above_0_domain_forest =
    grown ((list 0 123 ((word 1 10 (codes "defdomain")) ∷ (word 11 12 (codes "d")) ∷ (list 13 122 ((list 14 43
    ((word 15 24 (codes ":operator")) ∷ (list 25 33 ((word 26 29 (codes "!do")) ∷ (word 30 32 (codes "?x")) ∷
    [])) ∷ (list 34 36 ([])) ∷ (list 37 39 ([])) ∷ (list 40 42 ([])) ∷ [])) ∷ (list 44 121 ((word 45 52 (codes
    ":method")) ∷ (list 53 56 ((word 54 55 (codes "m")) ∷ [])) ∷ (list 57 109 ((list 58 66 ((word 59 60 (codes
    "w")) ∷ (word 61 63 (codes "?x")) ∷ (number 64 65 (pos 1000)) ∷ [])) ∷ (list 67 108 ((word 68 74 (codes
    "forall")) ∷ (list 75 79 ((word 76 78 (codes "?y")) ∷ [])) ∷ (list 80 91 ((list 81 90 ((word 82 83 (codes
    "w")) ∷ (word 84 86 (codes "?y")) ∷ (word 87 89 (codes "?k")) ∷ [])) ∷ [])) ∷ (list 92 107 ((list 93 106
    ((word 94 98 (codes "call")) ∷ (word 99 100 (codes ">")) ∷ (word 101 103 (codes "?k")) ∷ (number 104 105
    (pos 0)) ∷ [])) ∷ [])) ∷ [])) ∷ [])) ∷ (list 110 120 ((list 111 119 ((word 112 115 (codes "!do")) ∷ (word
    116 118 (codes "?x")) ∷ [])) ∷ [])) ∷ [])) ∷ [])) ∷ [])) ∷ [])

-- the text spells this forest
pub all_above_0_domain_spelled : IsForest texts.all_above_0_domain all_above_0_domain_forest
unfolding spelling_of
all_above_0_domain_spelled = tested texts.all_above_0_domain all_above_0_domain_forest refl

abbrev pub all_above_1_domain_forest : Forest
all_above_1_domain_forest =
    grown ((list 0 123 ((word 1 10 (codes "defdomain")) ∷ (word 11 12 (codes "d")) ∷ (list 13 122 ((list 14 43
    ((word 15 24 (codes ":operator")) ∷ (list 25 33 ((word 26 29 (codes "!do")) ∷ (word 30 32 (codes "?x")) ∷
    [])) ∷ (list 34 36 ([])) ∷ (list 37 39 ([])) ∷ (list 40 42 ([])) ∷ [])) ∷ (list 44 121 ((word 45 52 (codes
    ":method")) ∷ (list 53 56 ((word 54 55 (codes "m")) ∷ [])) ∷ (list 57 109 ((list 58 66 ((word 59 60 (codes
    "w")) ∷ (word 61 63 (codes "?x")) ∷ (number 64 65 (pos 1000)) ∷ [])) ∷ (list 67 108 ((word 68 74 (codes
    "forall")) ∷ (list 75 79 ((word 76 78 (codes "?y")) ∷ [])) ∷ (list 80 91 ((list 81 90 ((word 82 83 (codes
    "w")) ∷ (word 84 86 (codes "?y")) ∷ (word 87 89 (codes "?k")) ∷ [])) ∷ [])) ∷ (list 92 107 ((list 93 106
    ((word 94 98 (codes "call")) ∷ (word 99 100 (codes ">")) ∷ (word 101 103 (codes "?k")) ∷ (number 104 105
    (pos 1000)) ∷ [])) ∷ [])) ∷ [])) ∷ [])) ∷ (list 110 120 ((list 111 119 ((word 112 115 (codes "!do")) ∷ (word
    116 118 (codes "?x")) ∷ [])) ∷ [])) ∷ [])) ∷ [])) ∷ [])) ∷ [])

-- the text spells this forest
pub all_above_1_domain_spelled : IsForest texts.all_above_1_domain all_above_1_domain_forest
unfolding spelling_of
all_above_1_domain_spelled = tested texts.all_above_1_domain all_above_1_domain_forest refl

abbrev pub clear_domain_forest : Forest
clear_domain_forest =
    grown ((list 0 83 ((word 1 10 (codes "defdomain")) ∷ (word 11 12 (codes "c")) ∷ (list 13 82 ((list 15 81
    ((word 16 25 (codes ":operator")) ∷ (list 26 34 ((word 27 33 (codes "!clear")) ∷ [])) ∷ (list 35 37 ([])) ∷
    (list 38 71 ((list 39 70 ((word 40 46 (codes "forall")) ∷ (list 47 51 ((word 48 50 (codes "?x")) ∷ [])) ∷
    (list 52 60 ((list 53 59 ((word 54 55 (codes "p")) ∷ (word 56 58 (codes "?x")) ∷ [])) ∷ [])) ∷ (list 61 69
    ((list 62 68 ((word 63 64 (codes "p")) ∷ (word 65 67 (codes "?x")) ∷ [])) ∷ [])) ∷ [])) ∷ [])) ∷ (list 72 80
    ((list 73 79 ((word 74 78 (codes "done")) ∷ [])) ∷ [])) ∷ [])) ∷ [])) ∷ [])) ∷ [])

-- the text spells this forest
pub clear_domain_spelled : IsForest texts.clear_domain clear_domain_forest
unfolding spelling_of
clear_domain_spelled = tested texts.clear_domain clear_domain_forest refl

abbrev pub clear_problem_forest : Forest
clear_problem_forest =
    grown ((list 0 47 ((word 1 11 (codes "defproblem")) ∷ (word 12 13 (codes "p")) ∷ (word 14 15 (codes "c")) ∷
    (list 16 35 ((list 17 22 ((word 18 19 (codes "p")) ∷ (word 20 21 (codes "a")) ∷ [])) ∷ (list 23 28 ((word 24
    25 (codes "q")) ∷ (word 26 27 (codes "c")) ∷ [])) ∷ (list 29 34 ((word 30 31 (codes "p")) ∷ (word 32 33
    (codes "b")) ∷ [])) ∷ [])) ∷ (list 36 46 ((list 37 45 ((word 38 44 (codes "!clear")) ∷ [])) ∷ [])) ∷ [])) ∷
    [])

-- the text spells this forest
pub clear_problem_spelled : IsForest texts.clear_problem clear_problem_forest
unfolding spelling_of
clear_problem_spelled = tested texts.clear_problem clear_problem_forest refl

abbrev pub large_cost_domain_forest : Forest
large_cost_domain_forest =
    grown ((list 0 64 ((word 1 10 (codes "defdomain")) ∷ (word 11 12 (codes "d")) ∷ (list 13 63 ((list 14 62
    ((word 15 24 (codes ":operator")) ∷ (list 25 31 ((word 26 30 (codes "!big")) ∷ [])) ∷ (list 32 34 ([])) ∷
    (list 35 37 ([])) ∷ (list 38 40 ([])) ∷ (number 41 61 (pos 9223372036854775807)) ∷ [])) ∷ [])) ∷ [])) ∷ [])

-- the text spells this forest
pub large_cost_domain_spelled : IsForest texts.large_cost_domain large_cost_domain_forest
unfolding spelling_of
large_cost_domain_spelled = tested texts.large_cost_domain large_cost_domain_forest refl

abbrev pub half_cost_domain_forest : Forest
half_cost_domain_forest =
    grown ((list 0 47 ((word 1 10 (codes "defdomain")) ∷ (word 11 12 (codes "d")) ∷ (list 13 46 ((list 14 45
    ((word 15 24 (codes ":operator")) ∷ (list 25 31 ((word 26 30 (codes "!big")) ∷ [])) ∷ (list 32 34 ([])) ∷
    (list 35 37 ([])) ∷ (list 38 40 ([])) ∷ (number 41 44 (pos 500)) ∷ [])) ∷ [])) ∷ [])) ∷ [])

-- the text spells this forest
pub half_cost_domain_spelled : IsForest texts.half_cost_domain half_cost_domain_forest
unfolding spelling_of
half_cost_domain_spelled = tested texts.half_cost_domain half_cost_domain_forest refl

abbrev pub big_problem_forest : Forest
big_problem_forest =
    grown ((list 0 35 ((word 1 11 (codes "defproblem")) ∷ (word 12 13 (codes "p")) ∷ (word 14 15 (codes "d")) ∷
    (list 16 18 ([])) ∷ (list 19 34 ((list 20 26 ((word 21 25 (codes "!big")) ∷ [])) ∷ (list 27 33 ((word 28 32
    (codes "!big")) ∷ [])) ∷ [])) ∷ [])) ∷ [])

-- the text spells this forest
pub big_problem_spelled : IsForest texts.big_problem big_problem_forest
unfolding spelling_of
big_problem_spelled = tested texts.big_problem big_problem_forest refl

abbrev pub each_domain_forest : Forest
each_domain_forest =
    grown ((list 0 122 ((word 1 10 (codes "defdomain")) ∷ (word 11 12 (codes "d")) ∷ (list 13 121 ((list 14 43
    ((word 15 24 (codes ":operator")) ∷ (list 25 33 ((word 26 29 (codes "!do")) ∷ (word 30 32 (codes "?x")) ∷
    [])) ∷ (list 34 36 ([])) ∷ (list 37 39 ([])) ∷ (list 40 42 ([])) ∷ [])) ∷ (list 44 94 ((word 45 52 (codes
    ":method")) ∷ (list 53 69 ((word 54 58 (codes "each")) ∷ (list 59 68 ((word 60 62 (codes "?h")) ∷ (word 63
    64 (codes ".")) ∷ (word 65 67 (codes "?t")) ∷ [])) ∷ [])) ∷ (list 70 72 ([])) ∷ (list 73 93 ((list 74 82
    ((word 75 78 (codes "!do")) ∷ (word 79 81 (codes "?h")) ∷ [])) ∷ (list 83 92 ((word 84 88 (codes "each")) ∷
    (word 89 91 (codes "?t")) ∷ [])) ∷ [])) ∷ [])) ∷ (list 95 120 ((word 96 103 (codes ":method")) ∷ (list 104
    113 ((word 105 109 (codes "each")) ∷ (list 110 112 ([])) ∷ [])) ∷ (list 114 116 ([])) ∷ (list 117 119 ([]))
    ∷ [])) ∷ [])) ∷ [])) ∷ [])

-- the text spells this forest
pub each_domain_spelled : IsForest texts.each_domain each_domain_forest
unfolding spelling_of
each_domain_spelled = tested texts.each_domain each_domain_forest refl

abbrev pub each_problem_forest : Forest
each_problem_forest =
    grown ((list 0 57 ((word 1 11 (codes "defproblem")) ∷ (word 12 13 (codes "p")) ∷ (word 14 15 (codes "d")) ∷
    (list 16 41 ((list 17 24 ((word 18 19 (codes "w")) ∷ (word 20 21 (codes "a")) ∷ (number 22 23 (pos 3000)) ∷
    [])) ∷ (list 25 32 ((word 26 27 (codes "w")) ∷ (word 28 29 (codes "b")) ∷ (number 30 31 (pos 1000)) ∷ [])) ∷
    (list 33 40 ((word 34 35 (codes "w")) ∷ (word 36 37 (codes "c")) ∷ (number 38 39 (pos 3000)) ∷ [])) ∷ [])) ∷
    (list 42 56 ((list 43 55 ((word 44 48 (codes "each")) ∷ (list 49 54 ((word 50 51 (codes "a")) ∷ (word 52 53
    (codes "b")) ∷ [])) ∷ [])) ∷ [])) ∷ [])) ∷ [])

-- the text spells this forest
pub each_problem_spelled : IsForest texts.each_problem each_problem_forest
unfolding spelling_of
each_problem_spelled = tested texts.each_problem each_problem_forest refl

abbrev pub travel_domain_forest : Forest
travel_domain_forest =
    grown ((list 28 747 ((word 29 38 (codes "defdomain")) ∷ (word 39 45 (codes "travel")) ∷ (list 46 746 ((list
    50 107 ((word 51 60 (codes ":operator")) ∷ (list 61 74 ((word 62 67 (codes "!walk")) ∷ (word 68 70 (codes
    "?x")) ∷ (word 71 73 (codes "?y")) ∷ [])) ∷ (list 75 84 ((list 76 83 ((word 77 79 (codes "at")) ∷ (word 80
    82 (codes "?x")) ∷ [])) ∷ [])) ∷ (list 85 94 ((list 86 93 ((word 87 89 (codes "at")) ∷ (word 90 92 (codes
    "?x")) ∷ [])) ∷ [])) ∷ (list 95 104 ((list 96 103 ((word 97 99 (codes "at")) ∷ (word 100 102 (codes "?y")) ∷
    [])) ∷ [])) ∷ (number 105 106 (pos 3000)) ∷ [])) ∷ (list 110 158 ((word 111 120 (codes ":operator")) ∷ (list
    121 136 ((word 122 132 (codes "!call-taxi")) ∷ (word 133 135 (codes "?x")) ∷ [])) ∷ (list 137 139 ([])) ∷
    (list 140 142 ([])) ∷ (list 143 157 ((list 144 156 ((word 145 152 (codes "taxi-at")) ∷ (word 153 155 (codes
    "?x")) ∷ [])) ∷ [])) ∷ [])) ∷ (list 161 261 ((word 162 171 (codes ":operator")) ∷ (list 172 185 ((word 173
    178 (codes "!ride")) ∷ (word 179 181 (codes "?x")) ∷ (word 182 184 (codes "?y")) ∷ [])) ∷ (list 186 208
    ((list 187 194 ((word 188 190 (codes "at")) ∷ (word 191 193 (codes "?x")) ∷ [])) ∷ (list 195 207 ((word 196
    203 (codes "taxi-at")) ∷ (word 204 206 (codes "?x")) ∷ [])) ∷ [])) ∷ (list 213 235 ((list 214 221 ((word 215
    217 (codes "at")) ∷ (word 218 220 (codes "?x")) ∷ [])) ∷ (list 222 234 ((word 223 230 (codes "taxi-at")) ∷
    (word 231 233 (codes "?x")) ∷ [])) ∷ [])) ∷ (list 236 258 ((list 237 244 ((word 238 240 (codes "at")) ∷
    (word 241 243 (codes "?y")) ∷ [])) ∷ (list 245 257 ((word 246 253 (codes "taxi-at")) ∷ (word 254 256 (codes
    "?y")) ∷ [])) ∷ [])) ∷ (number 259 260 (pos 4000)) ∷ [])) ∷ (list 264 339 ((word 265 274 (codes ":operator")) ∷
    (list 275 291 ((word 276 280 (codes "!pay")) ∷ (word 281 285 (codes "?old")) ∷ (word 286 290 (codes "?new"))
    ∷ [])) ∷ (list 292 306 ((list 293 305 ((word 294 299 (codes "money")) ∷ (word 300 304 (codes "?old")) ∷ []))
    ∷ [])) ∷ (list 307 321 ((list 308 320 ((word 309 314 (codes "money")) ∷ (word 315 319 (codes "?old")) ∷ []))
    ∷ [])) ∷ (list 322 336 ((list 323 335 ((word 324 329 (codes "money")) ∷ (word 330 334 (codes "?new")) ∷ []))
    ∷ [])) ∷ (number 337 338 (pos 0)) ∷ [])) ∷ (list 366 427 ((word 367 369 (codes ":-")) ∷ (list 370 383 ((word
    371 376 (codes "short")) ∷ (word 377 379 (codes "?x")) ∷ (word 380 382 (codes "?y")) ∷ [])) ∷ (word 384 389
    (codes "close")) ∷ (list 390 426 ((list 391 410 ((word 392 400 (codes "distance")) ∷ (word 401 403 (codes
    "?x")) ∷ (word 404 406 (codes "?y")) ∷ (word 407 409 (codes "?d")) ∷ [])) ∷ (list 411 425 ((word 412 416
    (codes "call")) ∷ (word 417 419 (codes "<=")) ∷ (word 420 422 (codes "?d")) ∷ (number 423 424 (pos 2000)) ∷
    [])) ∷ [])) ∷ [])) ∷ (list 430 506 ((word 431 438 (codes ":method")) ∷ (list 439 453 ((word 440 446 (codes
    "travel")) ∷ (word 447 449 (codes "?x")) ∷ (word 450 452 (codes "?y")) ∷ [])) ∷ (word 458 465 (codes
    "by-foot")) ∷ (list 466 489 ((list 467 474 ((word 468 470 (codes "at")) ∷ (word 471 473 (codes "?x")) ∷ []))
    ∷ (list 475 488 ((word 476 481 (codes "short")) ∷ (word 482 484 (codes "?x")) ∷ (word 485 487 (codes "?y"))
    ∷ [])) ∷ [])) ∷ (list 490 505 ((list 491 504 ((word 492 497 (codes "!walk")) ∷ (word 498 500 (codes "?x")) ∷
    (word 501 503 (codes "?y")) ∷ [])) ∷ [])) ∷ [])) ∷ (list 509 745 ((word 510 517 (codes ":method")) ∷ (list
    518 532 ((word 519 525 (codes "travel")) ∷ (word 526 528 (codes "?x")) ∷ (word 529 531 (codes "?y")) ∷ []))
    ∷ (word 537 544 (codes "by-taxi")) ∷ (list 545 692 ((list 546 553 ((word 547 549 (codes "at")) ∷ (word 550
    552 (codes "?x")) ∷ [])) ∷ (list 554 573 ((word 555 563 (codes "distance")) ∷ (word 564 566 (codes "?x")) ∷
    (word 567 569 (codes "?y")) ∷ (word 570 572 (codes "?d")) ∷ [])) ∷ (list 574 584 ((word 575 580 (codes
    "money")) ∷ (word 581 583 (codes "?m")) ∷ [])) ∷ (list 598 626 ((word 599 605 (codes "assign")) ∷ (word 606
    611 (codes "?fare")) ∷ (list 612 625 ((word 613 617 (codes "call")) ∷ (word 618 619 (codes "+")) ∷ (number
    620 621 (pos 2000)) ∷ (word 622 624 (codes "?d")) ∷ [])) ∷ [])) ∷ (list 627 645 ((word 628 632 (codes "call"))
    ∷ (word 633 635 (codes ">=")) ∷ (word 636 638 (codes "?m")) ∷ (word 639 644 (codes "?fare")) ∷ [])) ∷ (list
    659 691 ((word 660 666 (codes "assign")) ∷ (word 667 672 (codes "?left")) ∷ (list 673 690 ((word 674 678
    (codes "call")) ∷ (word 679 680 (codes "-")) ∷ (word 681 683 (codes "?m")) ∷ (word 684 689 (codes "?fare"))
    ∷ [])) ∷ [])) ∷ [])) ∷ (list 697 744 ((list 698 713 ((word 699 709 (codes "!call-taxi")) ∷ (word 710 712
    (codes "?x")) ∷ [])) ∷ (list 714 727 ((word 715 720 (codes "!ride")) ∷ (word 721 723 (codes "?x")) ∷ (word
    724 726 (codes "?y")) ∷ [])) ∷ (list 728 743 ((word 729 733 (codes "!pay")) ∷ (word 734 736 (codes "?m")) ∷
    (word 737 742 (codes "?left")) ∷ [])) ∷ [])) ∷ [])) ∷ [])) ∷ [])) ∷ [])

-- the text spells this forest
pub travel_domain_spelled : IsForest texts.travel_domain travel_domain_forest
unfolding spelling_of
travel_domain_spelled = tested texts.travel_domain travel_domain_forest refl

abbrev pub trip_problem_forest : Forest
trip_problem_forest =
    grown ((list 0 95 ((word 1 11 (codes "defproblem")) ∷ (word 12 16 (codes "trip")) ∷ (word 17 23 (codes
    "travel")) ∷ (list 26 71 ((list 27 36 ((word 28 30 (codes "at")) ∷ (word 31 35 (codes "home")) ∷ [])) ∷
    (list 37 47 ((word 38 43 (codes "money")) ∷ (number 44 46 (pos 10000)) ∷ [])) ∷ (list 48 70 ((word 49 57 (codes
    "distance")) ∷ (word 58 62 (codes "home")) ∷ (word 63 67 (codes "park")) ∷ (number 68 69 (pos 2000)) ∷ [])) ∷
    [])) ∷ (list 74 94 ((list 75 93 ((word 76 82 (codes "travel")) ∷ (word 83 87 (codes "home")) ∷ (word 88 92
    (codes "park")) ∷ [])) ∷ [])) ∷ [])) ∷ [])

-- the text spells this forest
pub trip_problem_spelled : IsForest texts.trip_problem trip_problem_forest
unfolding spelling_of
trip_problem_spelled = tested texts.trip_problem trip_problem_forest refl

abbrev pub twelve_domain_forest : Forest
twelve_domain_forest =
    grown ((list 0 327 ((word 1 10 (codes "defdomain")) ∷ (word 11 12 (codes "t")) ∷ (list 13 326 ((list 14 39
    ((word 15 24 (codes ":operator")) ∷ (list 25 29 ((word 26 28 (codes "!a")) ∷ [])) ∷ (list 30 32 ([])) ∷
    (list 33 35 ([])) ∷ (list 36 38 ([])) ∷ [])) ∷ (list 40 65 ((word 41 50 (codes ":operator")) ∷ (list 51 55
    ((word 52 54 (codes "!b")) ∷ [])) ∷ (list 56 58 ([])) ∷ (list 59 61 ([])) ∷ (list 62 64 ([])) ∷ [])) ∷ (list
    66 91 ((word 67 76 (codes ":operator")) ∷ (list 77 81 ((word 78 80 (codes "!c")) ∷ [])) ∷ (list 82 84 ([]))
    ∷ (list 85 87 ([])) ∷ (list 88 90 ([])) ∷ [])) ∷ (list 92 117 ((word 93 102 (codes ":operator")) ∷ (list 103
    107 ((word 104 106 (codes "!d")) ∷ [])) ∷ (list 108 110 ([])) ∷ (list 111 113 ([])) ∷ (list 114 116 ([])) ∷
    [])) ∷ (list 118 143 ((word 119 128 (codes ":operator")) ∷ (list 129 133 ((word 130 132 (codes "!e")) ∷ []))
    ∷ (list 134 136 ([])) ∷ (list 137 139 ([])) ∷ (list 140 142 ([])) ∷ [])) ∷ (list 144 169 ((word 145 154
    (codes ":operator")) ∷ (list 155 159 ((word 156 158 (codes "!f")) ∷ [])) ∷ (list 160 162 ([])) ∷ (list 163
    165 ([])) ∷ (list 166 168 ([])) ∷ [])) ∷ (list 170 195 ((word 171 180 (codes ":operator")) ∷ (list 181 185
    ((word 182 184 (codes "!g")) ∷ [])) ∷ (list 186 188 ([])) ∷ (list 189 191 ([])) ∷ (list 192 194 ([])) ∷ []))
    ∷ (list 196 221 ((word 197 206 (codes ":operator")) ∷ (list 207 211 ((word 208 210 (codes "!h")) ∷ [])) ∷
    (list 212 214 ([])) ∷ (list 215 217 ([])) ∷ (list 218 220 ([])) ∷ [])) ∷ (list 222 247 ((word 223 232 (codes
    ":operator")) ∷ (list 233 237 ((word 234 236 (codes "!i")) ∷ [])) ∷ (list 238 240 ([])) ∷ (list 241 243
    ([])) ∷ (list 244 246 ([])) ∷ [])) ∷ (list 248 273 ((word 249 258 (codes ":operator")) ∷ (list 259 263
    ((word 260 262 (codes "!j")) ∷ [])) ∷ (list 264 266 ([])) ∷ (list 267 269 ([])) ∷ (list 270 272 ([])) ∷ []))
    ∷ (list 274 299 ((word 275 284 (codes ":operator")) ∷ (list 285 289 ((word 286 288 (codes "!k")) ∷ [])) ∷
    (list 290 292 ([])) ∷ (list 293 295 ([])) ∷ (list 296 298 ([])) ∷ [])) ∷ (list 300 325 ((word 301 310 (codes
    ":operator")) ∷ (list 311 315 ((word 312 314 (codes "!l")) ∷ [])) ∷ (list 316 318 ([])) ∷ (list 319 321
    ([])) ∷ (list 322 324 ([])) ∷ [])) ∷ [])) ∷ [])) ∷ [])

-- the text spells this forest
pub twelve_domain_spelled : IsForest texts.twelve_domain twelve_domain_forest
unfolding spelling_of
twelve_domain_spelled = tested texts.twelve_domain twelve_domain_forest refl

abbrev pub any_of_twelve_problem_forest : Forest
any_of_twelve_problem_forest =
    grown ((list 0 92 ((word 1 11 (codes "defproblem")) ∷ (word 12 13 (codes "p")) ∷ (word 14 15 (codes "t")) ∷
    (list 16 18 ([])) ∷ (list 19 91 ((word 20 30 (codes ":unordered")) ∷ (list 31 35 ((word 32 34 (codes "!a"))
    ∷ [])) ∷ (list 36 40 ((word 37 39 (codes "!b")) ∷ [])) ∷ (list 41 45 ((word 42 44 (codes "!c")) ∷ [])) ∷
    (list 46 50 ((word 47 49 (codes "!d")) ∷ [])) ∷ (list 51 55 ((word 52 54 (codes "!e")) ∷ [])) ∷ (list 56 60
    ((word 57 59 (codes "!f")) ∷ [])) ∷ (list 61 65 ((word 62 64 (codes "!g")) ∷ [])) ∷ (list 66 70 ((word 67 69
    (codes "!h")) ∷ [])) ∷ (list 71 75 ((word 72 74 (codes "!i")) ∷ [])) ∷ (list 76 80 ((word 77 79 (codes
    "!j")) ∷ [])) ∷ (list 81 85 ((word 82 84 (codes "!k")) ∷ [])) ∷ (list 86 90 ((word 87 89 (codes "!l")) ∷
    [])) ∷ [])) ∷ [])) ∷ [])

-- the text spells this forest
pub any_of_twelve_problem_spelled : IsForest texts.any_of_twelve_problem any_of_twelve_problem_forest
unfolding spelling_of
any_of_twelve_problem_spelled = tested texts.any_of_twelve_problem any_of_twelve_problem_forest refl
