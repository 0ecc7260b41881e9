-- The words and the number that are written of values without them can be spelled.
use Rattle.std.proofs.Common.{pos, refl, lit<, lit≤, codes}
use Rattle.std.specs.Fmt.{digits}
use Rattle.hp_syntax.specs.Text.{spelling_of}
use Rattle.hp_print.proofs.CanSpell.{IsName, IsNumber}

-- `.` can be spelled
pub dot_name : IsName (codes ".")
unfolding spelling_of
dot_name = record { bytes = refl; some = lit< tt; short = lit≤ tt; spells = refl }

-- `call` can be spelled
pub call_name : IsName (codes "call")
unfolding spelling_of
call_name = record { bytes = refl; some = lit< tt; short = lit≤ tt; spells = refl }

-- `and` can be spelled
pub and_name : IsName (codes "and")
unfolding spelling_of
and_name = record { bytes = refl; some = lit< tt; short = lit≤ tt; spells = refl }

-- `or` can be spelled
pub or_name : IsName (codes "or")
unfolding spelling_of
or_name = record { bytes = refl; some = lit< tt; short = lit≤ tt; spells = refl }

-- `not` can be spelled
pub not_name : IsName (codes "not")
unfolding spelling_of
not_name = record { bytes = refl; some = lit< tt; short = lit≤ tt; spells = refl }

-- `forall` can be spelled
pub forall_name : IsName (codes "forall")
unfolding spelling_of
forall_name = record { bytes = refl; some = lit< tt; short = lit≤ tt; spells = refl }

-- `assign` can be spelled
pub assign_name : IsName (codes "assign")
unfolding spelling_of
assign_name = record { bytes = refl; some = lit< tt; short = lit≤ tt; spells = refl }

-- `:first` can be spelled
pub first_name : IsName (codes ":first")
unfolding spelling_of
first_name = record { bytes = refl; some = lit< tt; short = lit≤ tt; spells = refl }

-- `:sort-by` can be spelled
pub sort_name : IsName (codes ":sort-by")
unfolding spelling_of
sort_name = record { bytes = refl; some = lit< tt; short = lit≤ tt; spells = refl }

-- `<` can be spelled
pub up_name : IsName (codes "<")
unfolding spelling_of
up_name = record { bytes = refl; some = lit< tt; short = lit≤ tt; spells = refl }

-- `>` can be spelled
pub down_name : IsName (codes ">")
unfolding spelling_of
down_name = record { bytes = refl; some = lit< tt; short = lit≤ tt; spells = refl }

-- `:ordered` can be spelled
pub ordered_name : IsName (codes ":ordered")
unfolding spelling_of
ordered_name = record { bytes = refl; some = lit< tt; short = lit≤ tt; spells = refl }

-- `:unordered` can be spelled
pub unordered_name : IsName (codes ":unordered")
unfolding spelling_of
unordered_name = record { bytes = refl; some = lit< tt; short = lit≤ tt; spells = refl }

-- `:immediate` can be spelled
pub immediate_name : IsName (codes ":immediate")
unfolding spelling_of
immediate_name = record { bytes = refl; some = lit< tt; short = lit≤ tt; spells = refl }

-- `:protection` can be spelled
pub protection_name : IsName (codes ":protection")
unfolding spelling_of
protection_name = record { bytes = refl; some = lit< tt; short = lit≤ tt; spells = refl }

-- `:operator` can be spelled
pub operator_name : IsName (codes ":operator")
unfolding spelling_of
operator_name = record { bytes = refl; some = lit< tt; short = lit≤ tt; spells = refl }

-- `:method` can be spelled
pub method_name : IsName (codes ":method")
unfolding spelling_of
method_name = record { bytes = refl; some = lit< tt; short = lit≤ tt; spells = refl }

-- `:-` can be spelled
pub axiom_mark_name : IsName (codes ":-")
unfolding spelling_of
axiom_mark_name = record { bytes = refl; some = lit< tt; short = lit≤ tt; spells = refl }

-- `defdomain` can be spelled
pub domain_name : IsName (codes "defdomain")
unfolding spelling_of
domain_name = record { bytes = refl; some = lit< tt; short = lit≤ tt; spells = refl }

-- `defproblem` can be spelled
pub problem_name : IsName (codes "defproblem")
unfolding spelling_of
problem_name = record { bytes = refl; some = lit< tt; short = lit≤ tt; spells = refl }

-- 1 can be spelled
pub one_number : IsNumber (pos 1000)
unfolding spelling_of digits
one_number = record { bytes = refl; some = lit< tt; short = lit≤ tt; spells = refl }
