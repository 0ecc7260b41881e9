-- The text of a plan file with the planner's own lines made blank, of the same length.
use Rattle.std.specs.Prelude.{ℕ, Bool, false, ◌&&◌, ◌||◌, not, ◌==◌, cond, List, [], ◌∷◌, codes}
use Rattle.hp_doctor.specs.Nesting.{starts}
use Rattle.hp_doctor_derive.specs.declared.blanks.Line.{Line}

-- the line that begins here is the first one of a plan
abbrev pub begins_plan : List ℕ → Bool
begins_plan text = starts (codes "plan ") text

-- or one that the planner writes behind the steps of a plan
abbrev pub begins_ending : List ℕ → Bool
begins_ending text =
    starts (codes "end ") text || (starts (codes "cut ") text || (starts (codes "stopped ") text
    || starts (codes "fault ") text))

-- or one that it writes before a plan or about it
abbrev pub begins_note : List ℕ → Bool
begins_note text =
    starts (codes "path ") text || (starts (codes "problem ") text || (starts (codes "best ") text
    || starts (codes "depth ") text))

-- the line that begins here is one of the planner's own
abbrev pub is_own : List ℕ → Bool
is_own text = begins_plan text || (begins_ending text || begins_note text)

-- before the first line
abbrev pub no_line : Line
no_line = record { own = false; plan = false; second = false }

-- what is known of the line that begins here, by what was known before it
abbrev pub line_at : Line → List ℕ → Line
line_at l text = record {
  own = is_own text;
  plan = l.plan || begins_plan text;
  second = l.second || (l.plan && begins_plan text);
}

-- a line feed ends a line
abbrev pub line_behind : Line → ℕ → List ℕ → Line
line_behind l b text = cond (b == 10) (line_at l text) l

-- a line feed stays, and so does each byte of a line that isn't the planner's own, up to the second plan
abbrev pub byte_in : Line → ℕ → ℕ
byte_in l b = cond ((l.own || l.second) && not (b == 10)) 32 b

-- the bytes that are left of a text, in a line
abbrev pub blanked_in : Line → List ℕ → List ℕ
blanked_in l [] = []
blanked_in l (b ∷ bs) = byte_in l b ∷ blanked_in (line_behind l b bs) bs

abbrev pub blanked : List ℕ → List ℕ
blanked text = blanked_in (line_at no_line text) text
