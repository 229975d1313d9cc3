use Rattle.law_survivors.proofs.Choosing.{spared-of}
use Rattle.law_survivors.proofs.Running.{spared-run}
use Rattle.law_survivors.proofs.each_fragment_keeps_a_whole_one.Goals as goal

pub returns : goal.returns
returns c = λ script can keeps f low.
    let x = spared-of script keeps f low in (x.0, x.1, x.2, x.3, λ events live. (spared-run script events can live x.0 f x.1 x.2 x.3).stands)
