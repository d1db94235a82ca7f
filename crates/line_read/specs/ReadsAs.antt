-- What the code's readers answer, beside what reading gives.
use Rattle.std.specs.Prelude.{◌≡◌, List, Option, Some, None, Result, Ok, Err}
use Rattle.std.specs.Global.{Vec}
use Rattle.line_spelling.specs.declared.line.LineFail.{LineFail}
use Rattle.line_spelling.specs.declared.line.LineFail.TheVariants.{Bad, NoMemory}

-- nothing is said where memory is wanting
abbrev pub ReadFails : {A : Type 0} → LineFail → Option A → Type 0
ReadFails Bad read = read ≡ None
ReadFails NoMemory read = Unit {0}

-- what was returned is what reading gives, unless memory is wanting
abbrev pub ReadsAs : {A : Type 0} → Result A LineFail → Option A → Type 0
ReadsAs (Ok x) read = read ≡ Some x
ReadsAs (Err e) read = ReadFails e read

-- the same for items in a vector
abbrev pub ReadsItems : {A : Type 0} → Result (Vec A) LineFail → Option (List A) → Type 0
ReadsItems (Ok xs) read = read ≡ Some xs.items
ReadsItems (Err e) read = ReadFails e read
