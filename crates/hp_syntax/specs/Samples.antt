-- Two domains with their problems: their texts, and the forests that these spell.
use Rattle.std.specs.Prelude.{ℕ, List, [], ◌∷◌, ◌++◌, codes}
use Rattle.hp_syntax.specs.Forest.{Node, Word, Group, Forest, Bare, Grow}

abbrev pub grown : List Node → Forest
grown [] = Bare
grown (n ∷ ns) = Grow n (grown ns)

-- a word and a list, between two offsets
abbrev pub w : ℕ → ℕ → List ℕ → Node
w from to name = Word (record { from = from; to = to }) name

abbrev pub g : ℕ → ℕ → List Node → Node
g from to parts = Group (record { from = from; to = to }) (grown parts)

-- the domain of the sample basic: two operators, and a method that swaps what is held
abbrev pub basic_text : List ℕ
basic_text =
    codes "(defdomain basic (\n  (:operator (!pickup ?a) () () ((have ?a)))\n"
    ++ codes "  (:operator (!drop ?a) ((have ?a)) ((have ?a)) ())\n  (:method (swap ?x ?y)\n"
    ++ codes "    ((have ?x)) ((!drop ?x) (!pickup ?y))\n    ((have ?y)) ((!drop ?y) (!pickup ?x)))\n))\n"

abbrev pub basic_forest : Forest
basic_forest = grown (
    (g 0 227 ((w 1 10 (codes "defdomain")) ∷ (w 11 16 (codes "basic")) ∷
    (g 17 226 ((g 21 63 ((w 22 31 (codes ":operator")) ∷ (g 32 44 ((w 33 40 (codes "!pickup")) ∷
    (w 41 43 (codes "?a")) ∷
    [])) ∷ (g 45 47 ([])) ∷ (g 48 50 ([])) ∷ (g 51 62 ((g 52 61 ((w 53 57 (codes "have")) ∷ (w 58 60 (codes "?a")) ∷
    [])) ∷ [])) ∷ [])) ∷ (g 66 115 ((w 67 76 (codes ":operator")) ∷ (g 77 87 ((w 78 83 (codes "!drop")) ∷
    (w 84 86 (codes "?a")) ∷ [])) ∷ (g 88 99 ((g 89 98 ((w 90 94 (codes "have")) ∷
    (w 95 97 (codes "?a")) ∷ [])) ∷ [])) ∷
    (g 100 111 ((g 101 110 ((w 102 106 (codes "have")) ∷ (w 107 109 (codes "?a")) ∷ [])) ∷ [])) ∷ (g 112 114 ([])) ∷
    [])) ∷ (g 118 224 ((w 119 126 (codes ":method")) ∷ (g 127 139 ((w 128 132 (codes "swap")) ∷
    (w 133 135 (codes "?x")) ∷ (w 136 138 (codes "?y")) ∷ [])) ∷ (g 144 155 ((g 145 154 ((w 146 150 (codes "have")) ∷
    (w 151 153 (codes "?x")) ∷ [])) ∷ [])) ∷ (g 156 181 ((g 157 167 ((w 158 163 (codes "!drop")) ∷
    (w 164 166 (codes "?x")) ∷ [])) ∷ (g 168 180 ((w 169 176 (codes "!pickup")) ∷ (w 177 179 (codes "?y")) ∷ [])) ∷
    [])) ∷ (g 186 197 ((g 187 196 ((w 188 192 (codes "have")) ∷ (w 193 195 (codes "?y")) ∷ [])) ∷ [])) ∷
    (g 198 223 ((g 199 209 ((w 200 205 (codes "!drop")) ∷ (w 206 208 (codes "?y")) ∷ [])) ∷
    (g 210 222 ((w 211 218 (codes "!pickup")) ∷ (w 219 221 (codes "?x")) ∷ [])) ∷ [])) ∷ [])) ∷ [])) ∷ [])) ∷ [])

-- a problem for it
abbrev pub swap_text : List ℕ
swap_text = codes "(defproblem p1 basic ((have kiwi)) ((swap banjo kiwi)))\n"

abbrev pub swap_forest : Forest
swap_forest = grown (
    (g 0 55 ((w 1 11 (codes "defproblem")) ∷ (w 12 14 (codes "p1")) ∷ (w 15 20 (codes "basic")) ∷
    (g 21 34 ((g 22 33 ((w 23 27 (codes "have")) ∷ (w 28 32 (codes "kiwi")) ∷ [])) ∷ [])) ∷
    (g 35 54 ((g 36 53 ((w 37 41 (codes "swap")) ∷ (w 42 47 (codes "banjo")) ∷ (w 48 52 (codes "kiwi")) ∷ [])) ∷ [])) ∷
    [])) ∷ [])

-- a domain with two plans, and a task that is put off for ever
abbrev pub two_text : List ℕ
two_text =
    codes "(defdomain two (\n  (:operator (!take ?x ?y) ((at ?x ?y)) ((at ?x ?y)) ((held ?x)))\n"
    ++ codes "  (:method (fetch) ((at ?x ?y)) ((!take ?x ?y)))\n  (:method (fetch) () ((fetch)))\n))\n"

abbrev pub two_forest : Forest
two_forest = grown (
    (g 0 167 ((w 1 10 (codes "defdomain")) ∷ (w 11 14 (codes "two")) ∷
    (g 15 166 ((g 19 82 ((w 20 29 (codes ":operator")) ∷ (g 30 43 ((w 31 36 (codes "!take")) ∷ (w 37 39 (codes "?x")) ∷
    (w 40 42 (codes "?y")) ∷ [])) ∷ (g 44 56 ((g 45 55 ((w 46 48 (codes "at")) ∷ (w 49 51 (codes "?x")) ∷
    (w 52 54 (codes "?y")) ∷ [])) ∷ [])) ∷ (g 57 69 ((g 58 68 ((w 59 61 (codes "at")) ∷ (w 62 64 (codes "?x")) ∷
    (w 65 67 (codes "?y")) ∷ [])) ∷ [])) ∷ (g 70 81 ((g 71 80 ((w 72 76 (codes "held")) ∷
    (w 77 79 (codes "?x")) ∷ [])) ∷
    [])) ∷ [])) ∷ (g 85 131 ((w 86 93 (codes ":method")) ∷ (g 94 101 ((w 95 100 (codes "fetch")) ∷ [])) ∷
    (g 102 114 ((g 103 113 ((w 104 106 (codes "at")) ∷ (w 107 109 (codes "?x")) ∷ (w 110 112 (codes "?y")) ∷ [])) ∷
    [])) ∷ (g 115 130 ((g 116 129 ((w 117 122 (codes "!take")) ∷ (w 123 125 (codes "?x")) ∷ (w 126 128 (codes "?y")) ∷
    [])) ∷ [])) ∷ [])) ∷ (g 134 164 ((w 135 142 (codes ":method")) ∷ (g 143 150 ((w 144 149 (codes "fetch")) ∷ [])) ∷
    (g 151 153 ([])) ∷ (g 154 163 ((g 155 162 ((w 156 161 (codes "fetch")) ∷ [])) ∷ [])) ∷ [])) ∷ [])) ∷ [])) ∷ [])

-- a problem for it
abbrev pub fetch_text : List ℕ
fetch_text = codes "(defproblem p two ((at cup shelf) (at pan hook)) ((fetch)))\n"

abbrev pub fetch_forest : Forest
fetch_forest = grown (
    (g 0 59 ((w 1 11 (codes "defproblem")) ∷ (w 12 13 (codes "p")) ∷ (w 14 17 (codes "two")) ∷
    (g 18 48 ((g 19 33 ((w 20 22 (codes "at")) ∷ (w 23 26 (codes "cup")) ∷ (w 27 32 (codes "shelf")) ∷ [])) ∷
    (g 34 47 ((w 35 37 (codes "at")) ∷ (w 38 41 (codes "pan")) ∷ (w 42 46 (codes "hook")) ∷ [])) ∷ [])) ∷
    (g 49 58 ((g 50 57 ((w 51 56 (codes "fetch")) ∷ [])) ∷ [])) ∷ [])) ∷ [])

-- a problem with nothing to do
abbrev pub empty_text : List ℕ
empty_text = codes "(defproblem p basic () ())\n"

abbrev pub empty_forest : Forest
empty_forest = grown (
    (g 0 26 ((w 1 11 (codes "defproblem")) ∷ (w 12 13 (codes "p")) ∷ (w 14 19 (codes "basic")) ∷ (g 20 22 ([])) ∷
    (g 23 25 ([])) ∷ [])) ∷ [])
