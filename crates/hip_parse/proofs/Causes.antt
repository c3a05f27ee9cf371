-- If the text is refused for a fault, this is the cause of the refusal that states the fault.
use Rattle.std.proofs.Common.{ℕ, List}
use Rattle.hip_grammar.specs.declared.fault.TextFault.{TextFault}
use Rattle.hip_grammar.specs.declared.fault.TextFault.TheVariants as faults
use Rattle.hip_grammar.specs.ReadTexts.{IsRefusal}
use Rattle.hip_grammar.specs.Refusals.{IsCause, refusal_of}

pub cause_of : (text : List ℕ) (why : TextFault) (line : ℕ) → IsRefusal text why line → IsCause text (refusal_of why line)
cause_of text faults.Syntax line h = h
cause_of text faults.Unsupported line h = h
cause_of text faults.Range line h = h
cause_of text faults.TooDeep line h = h
