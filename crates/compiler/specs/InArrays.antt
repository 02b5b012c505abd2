-- A book's lines and its tables in the arrays that are lent for them. Assumes nothing.
use Rattle.std.specs.Prelude.{ℕ, ◌≡◌, List, length, Option, Result}
use Rattle.std.specs.Borrow.{MutBor}
use Rattle.grammar.specs.Data.Book.{Book as Lines}
use Rattle.book.specs.declared.Book.{Book}
use Rattle.book.specs.declared.Room.{Room}
use Rattle.compiler.specs.declared.book_lines.BookLines.{BookLines}
use Rattle.book.specs.declared.refusal.Refusal.{Refusal}
use Rattle.book.specs.Spelling.{Arrays, arrays}
use Rattle.agreement.specs.OneFormula.{FrontsHeld}
use Rattle.compiler.specs.declared.tables.Tables.{Tables}
use Rattle.compiler.specs.States.{BookHeld, TablesRoom, TablesLent, Tabled}
use Rattle.compiler.specs.Conditions.{BookKept}
use Rattle.compiler.specs.Prepared.{Prepared}
use Rattle.compiler.specs.Compiling.{Checked, Compiles}

-- an array that is lent in a struct keeps its length, and is the caller's still: it is the same borrow
abbrev pub Stays : MutBor (List ℕ) → MutBor (List ℕ) → Type 0
Stays old new = (length new.now ≡ length old.now) × (new.ghost_name ≡ old.ghost_name)

-- each array of the lines
abbrev pub LinesStay : BookLines → BookLines → Type 0
LinesStay old new =
    Stays old.inherited new.inherited × Stays old.synthesized new.synthesized × Stays old.rules new.rules × Stays old.definitions new.definitions
    × Stays old.kernels new.kernels × Stays old.goes new.goes

-- and of the tables
abbrev pub TablesStay : Tables → Tables → Type 0
TablesStay old new =
    Stays old.nullables new.nullables × Stays old.begins new.begins × Stays old.reaches new.reaches × Stays old.bounds new.bounds
    × Stays old.closures new.closures × Stays old.fronts new.fronts × Stays old.table new.table × Stays old.actions new.actions

-- the arrays of the lines
abbrev pub arrays_of : BookLines → Arrays
arrays_of l = arrays l.inherited.now l.synthesized.now l.rules.now l.definitions.now l.kernels.now l.goes.now

-- the lines of a book that is spelled right
abbrev pub KeptIn : Book → BookLines → Lines → Type 0
KeptIn numbers l b = BookKept numbers l.inherited.now l.synthesized.now l.rules.now l.definitions.now l.kernels.now l.goes.now b

-- what the tables are made of
abbrev pub HeldIn : Book → List ℕ → List ℕ → List ℕ → Lines → Type 0
HeldIn numbers rules kernels goes b =
    BookHeld b rules numbers.rules kernels numbers.kernels goes numbers.goes numbers.terminals numbers.states

-- room for the tables of a book
abbrev pub RoomIn : Book → Tables → Type 0
RoomIn numbers t =
    TablesRoom numbers.rules numbers.states t.nullables.now t.begins.now t.reaches.now t.bounds.now t.closures.now t.fronts.now t.table.now
    t.actions.now

-- as much as is said
abbrev pub LentIn : Room → Tables → Type 0
LentIn room t =
    TablesLent room t.nullables.now t.begins.now t.reaches.now t.bounds.now t.closures.now t.fronts.now t.table.now t.actions.now

-- the first of 7, 8 and 9 that applies, and the tables
abbrev pub TabledIn : Lines → ℕ → List ℕ → Tables → Type 0
TabledIn b r rules t =
    Tabled b r rules t.nullables.now t.begins.now t.reaches.now t.bounds.now t.closures.now t.fronts.now t.table.now t.actions.now

-- the first of 3 to 9
abbrev pub PreparedIn : ℕ → Book → BookLines → Tables → Lines → Type 0
PreparedIn r numbers l t b =
    Prepared r numbers l.inherited.now l.synthesized.now l.rules.now l.definitions.now l.kernels.now l.goes.now t.nullables.now t.reaches.now
    t.bounds.now t.closures.now t.fronts.now t.table.now t.actions.now b

-- the first of 3 to 10
abbrev pub CheckedIn : ℕ → Book → BookLines → Tables → Lines → Type 0
CheckedIn r numbers l t b =
    Checked r numbers l.inherited.now l.synthesized.now l.rules.now l.definitions.now l.kernels.now l.goes.now t.nullables.now t.reaches.now
    t.bounds.now t.closures.now t.table.now t.actions.now b

-- the first of 2 to 10
abbrev pub CompilesIn : Room → List ℕ → Option (Result Book Refusal) → BookLines → Tables → Type 0
CompilesIn room text compiled l t =
    Compiles room text compiled l.inherited.now l.synthesized.now l.rules.now l.definitions.now l.kernels.now l.goes.now t.nullables.now
    t.reaches.now t.bounds.now t.closures.now t.table.now t.actions.now

-- what formulas are compared by; what begins the rests of rules need not be in its array still
abbrev pub FrontsOf : Lines → Book → BookLines → Tables → List ℕ → Type 0
FrontsOf b numbers l t begins =
    FrontsHeld b l.rules.now numbers.rules l.definitions.now numbers.inherited_definitions l.kernels.now t.bounds.now t.closures.now t.fronts.now
    t.nullables.now begins t.reaches.now numbers.terminals numbers.states
