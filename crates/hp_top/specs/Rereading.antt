-- Why a text isn't read twice.
use Rattle.std.specs.Prelude.{◌⊎◌, ℕ, ◌<◌, List, length}
use Rattle.hp_syntax.specs.declared.limits.TheConstants.{LARGEST_TEXT, DEEPEST_NESTING}
use Rattle.hp_syntax.specs.Forest.{Node, nesting_of_node}
use Rattle.hp_top.specs.declared.loading.LoadError.{LoadError}
use Rattle.hp_top.specs.declared.loading.LoadError.TheVariants as causes
use Rattle.hp_top.specs.declared.rereading.RereadError.{RereadError}
use Rattle.hp_top.specs.declared.rereading.RereadError.TheVariants as errors

-- a text of a node goes past the limits: it is too large, or the node nests too deep
abbrev pub IsPastLimits : List ℕ → Node → Type 0
IsPastLimits text n = (LARGEST_TEXT < length text) ⊎ (DEEPEST_NESTING < nesting_of_node n)

-- the error for a text that is read as nothing for this cause
abbrev pub cause_unless_memory : LoadError → RereadError → RereadError
cause_unless_memory causes.NoMemory error = errors.NoMemory
cause_unless_memory (causes.Refused refusal) error = error
