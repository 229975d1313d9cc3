-- Texts without a fault: what is read is checked, has the facts that engines need, and has a canonical text.
use Rattle.std.specs.Prelude.{◌≡◌, true, Some, codes, refl, option_map}
use Rattle.dpc_model.specs.ScriptText.{script_text}
use Rattle.script_rules.specs.Reading.{read}
use Rattle.trial_scripts.specs.Opened.{all_opened}
use Rattle.trial_scripts.specs.Values.{reads_good}

-- skipped lines, further spaces, logs in another order and no last LF don't stay
pub becomes_canonical : option_map script_text (read (codes "  borealis   1\n\nwidth 10\n# text\ndelay 5\nend 20 \nsource a 1\nsource b 1\nlog b 4 -9223372036854775808\nlog a 1 10\nlog  a 1 10\nfragment f 1 a b\nunion u a b\nmap m u 2 if c0 time neg 3 max c0 0\naggregate g m 20 10 c1 count sum c0\nclient c f\nbegin\nrelease a 10\ntick 1\ncut b f.0\nlose a f.0\ntick 4\ncrash f.0\ntick 8\nheal b f.0\nrestart f.0\ntick 9\nsettle")) ≡ Some (codes "borealis 1\nwidth 10\ndelay 5\nend 20\nsource a 1\nlog a 1 10\nlog a 1 10\nsource b 1\nlog b 4 -9223372036854775808\nfragment f 1 a b\nunion u a b\nmap m u 2 if c0 time neg 3 max c0 0\naggregate g m 20 10 c1 count sum c0\nclient c f\nbegin\nrelease a 10\ntick 1\ncut b f.0\nlose a f.0\ntick 4\ncrash f.0\ntick 8\nheal b f.0\nrestart f.0\ntick 9\nsettle\n")
unfolding all_opened
becomes_canonical = refl

pub good_of_version_2 : reads_good (codes "borealis 2\nwidth  1\ndelay 0\nend 8\nsource s0 2\nlog s0  0 3 -2\n \nlog  s0 3 -1 13905653\nlog  s0  5  -9223372036854775807     5\nlog s0 7 4 2\nfragment  f1 3 s0\njoin k2 s0 s0  0 0 1     1  1  \nclient     z99bz00zz9b f1\nclient d90a09_     f1\n   \nbegin\n \nrelease     s0 1\ntick 6  \nsettle\n# end\n") ≡ true
unfolding all_opened
good_of_version_2 = refl

pub good_of_version_3 : reads_good (codes "borealis 3\nwidth 1\ndelay 1000000000000\nend 8\npassing 1\nsource s0 2\nlog s0 0 3 2\nlog s0 0 1 -9223372036854775807\nlog s0 0 0 -3\nlog s0 0 0 64361573562\nlog s0 0 -1 -1\nlog s0 0 0 9223372036854775806\nlog s0 0 9223372036854775807 0\nlog s0 0 -50414856309 3\nlog s0 0 5 -932379\nlog s0 1 -597592560283 4\nlog s0 2 -2 3\nlog s0 2 -3 3\nlog s0 4 -3 5\nlog s0 4 -1 0\nlog s0 4 -1 3909758701509\nfragment z 2 s0\naggregate k2 s0 2 1 c1 sum c0 max c0 min c1\nfragment f3 1 z s0\naggregate k4 s0 4 1 - min c0 min c0 sum c0\nclient c5 z\nclient eb_z1 f3\nclient c7 s0\nbegin\nsettle\n") ≡ true
unfolding all_opened
good_of_version_3 = refl
