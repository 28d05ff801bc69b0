-- Where the next line of a script stands that has not ended.
use Rattle.script_reader.proofs.Common.{Region, InScript, InFirstBranch, InSecondBranch, Open, BetweenParts, InFirst, InSecond}

-- where the next line stands
abbrev pub region_of : Open → Region
region_of BetweenParts = InScript
region_of (InFirst first) = InFirstBranch
region_of (InSecond first second) = InSecondBranch
