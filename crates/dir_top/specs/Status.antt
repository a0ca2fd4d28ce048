-- The exit status of the program, and what it tells.
use Rattle.std.specs.Prelude.{ℕ, List, [], ◌++◌, codes}
use Rattle.std.specs.Fmt.{decimal}
use Rattle.dir_top.specs.declared.why.LineWhy.{LineWhy}
use Rattle.dir_top.specs.declared.why.LineWhy.TheVariants.{LongLine, Grammar, First, Node, Conn, ConnTaken, Ticket, TicketTaken, Update, Request, State, Session}
use Rattle.dir_top.specs.declared.status.Status.{Status}
use Rattle.dir_top.specs.declared.status.Status.TheVariants.{Done, Usage, ScriptRefused, TooLong, ReadFault, WriteFault, NoMemory, NotYet}

abbrev pub why_text : LineWhy → List ℕ
why_text LongLine = codes "too long"
why_text Grammar = codes "outside the grammar"
why_text First = codes "nodes must come first and once"
why_text (Node n) = codes "no node " ++ decimal n
why_text (Conn c) = codes "no connection " ++ decimal c
why_text (ConnTaken c) = codes "connection " ++ decimal c ++ codes " is taken"
why_text (Ticket k) = codes "no ticket " ++ decimal k
why_text (TicketTaken k) = codes "ticket " ++ decimal k ++ codes " is taken"
why_text (Update u) = codes "no update " ++ decimal u
why_text Request = codes "not one write"
why_text (State k) = codes "ticket " ++ decimal k ++ codes " is not in that state"
why_text (Session a b) = codes "no session"

-- what is told of the line of this number
unfoldable pub line_text : ℕ → List ℕ → List ℕ
line_text line what = codes "line " ++ decimal line ++ codes ": " ++ what

abbrev pub number_of : Status → ℕ
number_of Done = 0
number_of (Usage word) = 2
number_of (ScriptRefused line why) = 3
number_of TooLong = 4
number_of ReadFault = 5
number_of WriteFault = 6
number_of NoMemory = 7
number_of (NotYet line) = 8

abbrev pub text_of : Status → List ℕ
text_of Done = []
text_of (Usage word) = codes "usage: " ++ word
text_of (ScriptRefused line why) = line_text line (why_text why)
text_of TooLong = codes "too many lines"
text_of ReadFault = codes "read failed"
text_of WriteFault = codes "write failed"
text_of NoMemory = codes "no memory"
text_of (NotYet line) = line_text line (codes "not yet")
