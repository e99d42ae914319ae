use Rattle.rx_commands.specs.FamilyPage.{front_text}
use Rattle.rx_commands.specs.declared.family.page.TheConstants.{FAMILY_STYLE}
use Rattle.rx_print.specs.Escape.{escaped}
use Rattle.rx_print.specs.declared.style.Style.TheVariants.{Html}
use Rattle.rx_print.proofs.Written.{eight}
use Rattle.rx_report_text.specs.declared.script.TheConstants.{POLICY}
use Rattle.rx_report_text.specs.declared.style.TheConstants.{STYLE}
use Rattle.std.proofs.Common.{codes}
use Rattle.rx_commands.proofs.family.page.put_front.Goals as goal

pub returns : goal.returns
unfolding front_text
returns c =
    eight c.args.page.now c.markup.new.self c.markup-2.new.self c.markup-3.new.self c.put_name.new.page
    c.markup-4.new.self c.markup-5.new.self c.markup-6.new.self c.markup-7.new.self
    (codes "<!DOCTYPE html>\n<html lang=\"en\">\n<head>\n<meta charset=\"utf-8\">\n")
    POLICY.now
    (codes "<meta name=\"viewport\" content=\"width=device-width, initial-scale=1\">\n<title>Family ")
    (escaped Html c.args.id.now)
    (codes "</title>\n<style>\n")
    STYLE.now
    FAMILY_STYLE.now
    (codes "</style>\n</head>\n<body>\n<a class=\"skip\" href=\"#claims\">Skip to the claims</a>\n")
    c.markup.ensures
    c.markup-2.ensures
    c.markup-3.ensures
    c.put_name.ensures
    c.markup-4.ensures
    c.markup-5.ensures
    c.markup-6.ensures
    c.markup-7.ensures
