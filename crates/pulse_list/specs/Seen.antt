-- The style of error pulses, as the pulse rule names it.
use Rattle.sg_delay.specs.declared.limits.PulseStyle.{PulseStyle}
use Rattle.sg_delay.specs.declared.limits.PulseStyle.TheVariants.{OnEvent, OnDetect}
use Rattle.sg_model.specs.Pending.{PulseStyle as ShownFrom, OnEvent as on_event, OnDetect as on_detect}

-- the style that the definitions speak of
abbrev pub style_seen : PulseStyle → ShownFrom
style_seen OnEvent = on_event
style_seen OnDetect = on_detect
