use Rattle.std.proofs.Common.{◌+◌, ◌^◌, ◌≡◌, ◌<◌, drop, false}
use Rattle.std.specs.Fmt.{digits}
use Rattle.hip_num.proofs.HexDigits.{onto}
use Rattle.hip_num.proofs.write.hex_digits.Given as goal

abbrev pub invariant-loop-rest : goal.invariant-loop-rest
invariant-loop-rest l =
    record {
      start : l.at < 16;
      room : l.rest < 16 ^ (l.at + 1);
      text : onto (l.at + 49) l.rest (drop (l.at + 1) l.text) ≡ digits 16 false l.fn.v;
    }

abbrev pub decreases-loop-rest : goal.decreases-loop-rest
decreases-loop-rest l = l.rest
