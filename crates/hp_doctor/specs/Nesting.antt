-- A rule that begins inside another one, where a bracket may be missing.
use Rattle.std.specs.Prelude.{ℕ, ◌+◌, ◌-◌, Bool, true, false, ◌&&◌, ◌||◌, not, nat_le, ◌==◌, cond, List, [], ◌∷◌, length, take, Option, Some, None, bytes_eq, codes}
use Rattle.hp_syntax.specs.declared.limits.TheConstants.{LARGEST_TEXT}
use Rattle.hp_doctor.specs.declared.nesting.Begun.{Begun}
use Rattle.hp_doctor.specs.declared.nesting.Nested.{Nested}
use Rattle.hp_doctor.specs.declared.nesting.Open.{Open}

-- ---- where rules begin

abbrev pub starts : List ℕ → List ℕ → Bool
starts word bytes = bytes_eq (take (length word) bytes) word

-- an opening bracket, and behind it the word of a rule
abbrev pub begins_rule : ℕ → List ℕ → Bool
begins_rule b behind =
    (b == 40) && (starts (codes ":operator") behind || (starts (codes ":method") behind || starts (codes ":-") behind))

-- ---- what is open

abbrev pub nothing_open : Open
nothing_open = record { depth = 0; rule = None; in_comment = false }

-- the outermost rule that is open behind an opening bracket
abbrev pub rule_behind : Option Begun → Bool → ℕ → ℕ → Option Begun
rule_behind (Some r) begins offset depth = Some r
rule_behind None begins offset depth = cond begins (Some (record { offset = offset; depth = depth })) None

-- that which is open behind a closing bracket
abbrev pub rule_left : Option Begun → ℕ → Option Begun
rule_left None depth = None
rule_left (Some r) depth = cond (nat_le depth r.depth) None (Some r)

abbrev pub opened : Open → ℕ → Bool → Open
opened o offset begins =
    record { depth = o.depth + 1; rule = rule_behind o.rule begins offset o.depth; in_comment = false }

abbrev pub closed : Open → Open
closed o = record { depth = o.depth - 1; rule = rule_left o.rule (o.depth - 1); in_comment = false }

-- behind a byte at an offset, at which a rule may begin
abbrev pub behind_byte : Open → ℕ → ℕ → Bool → Open
behind_byte o offset b begins =
    cond o.in_comment (record { depth = o.depth; rule = o.rule; in_comment = not (b == 10) })
    (cond (b == 59) (record { depth = o.depth; rule = o.rule; in_comment = true })
    (cond (b == 40) (opened o offset begins) (cond (b == 41) (closed o) o)))

-- ---- the first rule inside another

abbrev pub inside : Option Begun → ℕ → Option Nested
inside None offset = None
inside (Some r) offset = Some (record { inner = offset; outer = r.offset })

abbrev pub nested_at : Open → ℕ → Bool → Option Nested
nested_at o offset begins = cond (not o.in_comment && begins) (inside o.rule offset) None

abbrev pub this_or : Option Nested → Option Nested → Option Nested
this_or None other = other
this_or (Some n) other = Some n

-- among the bytes from an offset on
abbrev pub nested_from : Open → ℕ → List ℕ → Option Nested
nested_from o offset [] = None
nested_from o offset (b ∷ bs) =
    this_or (nested_at o offset (begins_rule b bs))
    (nested_from (behind_byte o offset b (begins_rule b bs)) (offset + 1) bs)

-- in a whole text, if it isn't larger than texts may be
abbrev pub nested_rule : List ℕ → Option Nested
nested_rule text = cond (nat_le (length text) LARGEST_TEXT) (nested_from nothing_open 0 text) None
