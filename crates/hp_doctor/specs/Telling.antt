-- How explaining goes on, and how it ends.
use Rattle.std.specs.Prelude.{◌≡◌, ℕ, ◌-◌, ◌^◌, ◌≤◌, List, [], ◌++◌, length, Option, Some, None}
use Rattle.hp_io.specs.Rules.{Rose}
use Rattle.hp_out.specs.Writing.{SinkRun, Wrote, WrotePrefix, WroteProperPrefix}
use Rattle.hp_doctor.specs.declared.telling.Halt.{Halt}
use Rattle.hp_doctor.specs.declared.telling.Halt.TheVariants.{NoMemory, Failed}
use Rattle.hp_doctor.specs.Explained.{explained, left, told}
use Rattle.hp_doctor.specs.Texts.{Texts}

-- the telling of a text stops: for want of memory, with a prefix of it written, or because the sink's count rose, with
-- a proper prefix
abbrev pub Halts : Halt → List ℕ → SinkRun → Type 0
Halts NoMemory text r = WrotePrefix text r.before r.after
Halts Failed text r = Rose r.faults_before r.faults_after × WroteProperPrefix text r.before r.after

-- why it stops, where nothing is known of the text
abbrev pub Stops : Halt → SinkRun → Type 0
Stops NoMemory r = Unit {0}
Stops Failed r = Rose r.faults_before r.faults_after

-- explaining an input stops
abbrev pub HaltsIn : Halt → Texts → Option (List ℕ) → SinkRun → Type 0
HaltsIn h t None r = Stops h r
HaltsIn h t (Some all) r = Halts h (explained t all) r

-- some bytes came from the front of what an input had, where it tells
abbrev pub Came : List ℕ → Option (List ℕ) → Option (List ℕ) → Type 0
Came seen None now = now ≡ None
Came seen (Some all) now = (rest : List ℕ) × (now ≡ Some rest) × (all ≡ seen ++ rest)

-- so many bytes came at least, the whole lines among them were told, and the bytes behind are kept
pub record IsThrough (t : Texts) (n : ℕ) (line : List ℕ) (old now : Option (List ℕ)) (r : SinkRun) : Type 0 where
  pub seen : List ℕ
  pub some : n ≤ length seen
  pub came : Came seen old now
  pub wrote : Wrote (told t [] seen) r.before r.after
  pub kept : line ≡ left [] seen

-- nothing is left of an input, where it tells
abbrev pub IsEnded : Option (List ℕ) → Type 0
IsEnded None = Unit {0}
IsEnded (Some rest) = rest ≡ []

-- an input that tells has more bytes than can be counted
abbrev pub IsEndless : Option (List ℕ) → Type 0
IsEndless None = Unit {0}
IsEndless (Some all) = 2 ^ 64 - 1 ≤ length all

-- what is written of a beginning of an input, where it tells
abbrev pub WroteOfBeginning : Texts → Option (List ℕ) → SinkRun → Type 0
WroteOfBeginning t None r = Unit {0}
WroteOfBeginning t (Some all) r =
    (seen : List ℕ) × (rest : List ℕ) × (all ≡ seen ++ rest) × Wrote (explained t seen) r.before r.after

-- what is written of an input whole, where it tells
abbrev pub WroteOfAll : Texts → Option (List ℕ) → SinkRun → Type 0
WroteOfAll t None r = Unit {0}
WroteOfAll t (Some all) r = Wrote (explained t all) r.before r.after
