-- What is written of a line spells it.
use Rattle.std.proofs.Common.{ℕ, List, [], refl}
use Rattle.hex.specs.Hex.{encode_lower}
use Rattle.hex.proofs.HexLemmas.{decode_of-encode_lower}
use Rattle.script_text.specs.declared.line.Line.{Line}
use Rattle.script_text.specs.declared.line.Line.TheVariants.{Nothing, Nodes, Clock, Connect, Input, StartWrite, Commit, Settle, Abort, Acquire, Release, Offer, Deliver, Pump, Restart, Fail, Vector, Dump, Audit}
use Rattle.script_text.specs.Spelling.{IsWritable, AreSomeBytes, SpellsBytes, Spells, line_text}

bytes-written : (bytes : List ℕ) → AreSomeBytes bytes → SpellsBytes (encode_lower bytes) bytes
bytes-written bytes h = record { some = h.some; spelled = decode_of-encode_lower bytes h.bytes }

pub written-spells : (line : Line) → IsWritable line → Spells (line_text line) line
written-spells Nothing w = tt
written-spells (Nodes n) w = ([], record { in_range = w.in_range; bytes = refl; words = refl })
written-spells (Clock time) w = ([], record { in_range = w.in_range; bytes = refl; words = refl })
written-spells (Connect c n) w = ([], record { in_range = w.in_range; bytes = refl; words = refl })
written-spells (Input c bytes) w = (encode_lower bytes, record { in_range = w.in_range; bytes = bytes-written bytes w.bytes; words = refl })
written-spells (StartWrite k c bytes) w = (encode_lower bytes, record { in_range = w.in_range; bytes = bytes-written bytes w.bytes; words = refl })
written-spells (Commit k) w = ([], record { in_range = w.in_range; bytes = refl; words = refl })
written-spells (Settle k) w = ([], record { in_range = w.in_range; bytes = refl; words = refl })
written-spells (Abort k) w = ([], record { in_range = w.in_range; bytes = refl; words = refl })
written-spells (Acquire a b) w = ([], record { in_range = w.in_range; bytes = refl; words = refl })
written-spells (Release a b) w = ([], record { in_range = w.in_range; bytes = refl; words = refl })
written-spells (Offer a b) w = ([], record { in_range = w.in_range; bytes = refl; words = refl })
written-spells (Deliver b u) w = ([], record { in_range = w.in_range; bytes = refl; words = refl })
written-spells (Pump a b) w = ([], record { in_range = w.in_range; bytes = refl; words = refl })
written-spells (Restart n) w = ([], record { in_range = w.in_range; bytes = refl; words = refl })
written-spells (Fail n j) w = ([], record { in_range = w.in_range; bytes = refl; words = refl })
written-spells (Vector n) w = ([], record { in_range = w.in_range; bytes = refl; words = refl })
written-spells (Dump n) w = ([], record { in_range = w.in_range; bytes = refl; words = refl })
written-spells (Audit n) w = ([], record { in_range = w.in_range; bytes = refl; words = refl })
