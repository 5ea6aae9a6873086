-- What a verdict reads as.
use Rattle.std.specs.Prelude.{ℕ, List, ◌++◌, codes, decimal}
use Rattle.ledger.specs.declared.verdict.Verdict.{Verdict}
use Rattle.ledger.specs.declared.verdict.Verdict.TheVariants.{ReadOnly, Numbered, Clash}

abbrev pub verdict_text : Verdict → List ℕ
verdict_text ReadOnly = codes "nothing written"
verdict_text (Numbered n) = codes "number " ++ decimal n
verdict_text (Clash n) = codes "clashes with number " ++ decimal n
