-- Room in arrays for all lines and states that the limits allow (01, "Spelling of a book").
-- Assumes nothing.
use Rattle.grammar.specs.Limits.{MAX_DEFINITIONS, MAX_KERNELS, MAX_GOES, MAX_STATES, MAX_RULES}
use Rattle.book.specs.declared.Room.{Room}

abbrev pub full_room : Room
full_room = record { definitions = MAX_DEFINITIONS; kernels = MAX_KERNELS; goes = MAX_GOES; states = MAX_STATES; rules = MAX_RULES }
