-- What the code's answer for one line means.
use Rattle.std.specs.Prelude.{Option}
use Rattle.dir_top.specs.declared.script.Step.{Step}
use Rattle.dir_top.specs.declared.script.Step.TheVariants as step
use Rattle.dir_top.specs.declared.state.State.{State}
use Rattle.script_text.specs.declared.line.Line.{Line}
use Rattle.script_text.specs.declared.line.Line.TheVariants.{Nothing, Nodes, Clock, Connect, Input, StartWrite}
use Rattle.dir_top.specs.Output.{LineStep, GoesOn, Refuses, NotBuilt}

abbrev pub meant : Step → Option State → LineStep (Option State)
meant (step.GoesOn text) new = GoesOn new text
meant (step.Refuses why) new = Refuses why
meant step.NotBuilt new = NotBuilt

-- a line that is an event of the world and nothing else, or is still to come
abbrev pub IsEventLine : Line → Type 0
IsEventLine Nothing = ⊥
IsEventLine (Nodes n) = ⊥
IsEventLine (Clock time) = ⊥
IsEventLine (Connect c n) = ⊥
IsEventLine (Input c bytes) = ⊥
IsEventLine (StartWrite k c bytes) = ⊥
IsEventLine line = Unit {0}
