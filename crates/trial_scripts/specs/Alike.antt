-- A faulty value is refused as its text is.
use Rattle.std.specs.Prelude.{◌≡◌, true, ◌++◌, codes, refl}
use Rattle.trial_scripts.specs.Opened.{all_opened, sources, phases}
use Rattle.trial_scripts.specs.Values.{script_said, is_refused_alike}

pub stream_twice : is_refused_alike (script_said (sources ++ codes "fragment f 1 a a\nfilter k a 1\nclient c f\nbegin\n")) ≡ true
unfolding all_opened
stream_twice = refl

pub unequal_union : is_refused_alike (script_said (sources ++ codes "fragment f 1 a b\nunion k a b\nclient c f\nbegin\nsettle\n")) ≡ true
unfolding all_opened
unequal_union = refl

pub clock_falls : is_refused_alike (script_said (phases ++ codes "tick 5\ncrash f.0\ntick 4\n")) ≡ true
unfolding all_opened
clock_falls = refl
